-- The rows and the lines of feeds, one more at a time.
use Rattle.std.proofs.Common.{◌≡◌, ℕ, suc, ◌+◌, ◌*◌, ◌<◌, ◌≤◌, ◌^◌, ◌⊎◌, Bool, List, [], ◌∷◌, ◌++◌, length, take, drop, get_or, refl, sym, ap, subst, ◌∙◌, inl, inr, append_assoc, add-one, arith, drop-cons, take-append-drop}
use Rattle.std.specs.Prelude.{Option, Ok}
use Rattle.std.specs.Borrow.{Bor}
use Rattle.std.proofs.lemmas.List.{append-nil, length-take-le, take_more}
use Rattle.desk_ops.proofs.Lists.{Each-append}
use Rattle.desk_ops.specs.OpSet.{OpSet}
use Rattle.desk_ops.specs.Settings.{setting_of}
use Rattle.desk_ops.specs.Shown.{copy_of}
use Rattle.desk_signals.specs.declared.RibbonRow.{RibbonRow}
use Rattle.desk_signals.specs.Rows.{IsRow}
use Rattle.desk_case.specs.Case.{CaseValues}
use Rattle.desk_wedge.specs.Wedge.{WedgeValues}
use Rattle.desk_ribbon.specs.Ribbon.{ribbon}
use Rattle.desk_caster.specs.Caster.{Line}
use Rattle.desk_job.specs.Reading.{CastsCopy}
use Rattle.feed_files.specs.Files.{Shelf, max_file}
use Rattle.feed_edit.specs.Exporting.{IsSetOf}
use Rattle.view_preview.specs.declared.fault.PreviewFault.{PreviewFault}
use Rattle.view_preview.specs.declared.fault.PreviewFault.TheVariants as faults
use Rattle.view_punch.specs.Adding.{Adds, IsRibbonOf, IsUnaddedTo, IsUnbegunAt}
use Rattle.view_punch.specs.Joining.{AreJoined, IsTooLong, IsUnjoined}
use Rattle.view_punch.specs.Making.{IsMadeOf}
use Rattle.view_punch.specs.Punching.{AreGalleysOf, AreLinesOf, AreLinesOfAll, AreUnmade, CastsAll, GiveMetal, IsGalleyOf, IsNext, IsUnadded, StopsAt, feeds_of}
use Rattle.view_punch.specs.declared.punching.Galleys.{Galleys}
use Rattle.view_punch.proofs.CastOrder.{cast_in_order}
use Rattle.view_punch.proofs.Joined.{length-ribbon}

-- ---- lengths

pub has_head : (bytes : List ℕ) (rows : List RibbonRow) → bytes ≡ ribbon rows → 8 ≤ length bytes
has_head bytes rows is = let long : length bytes ≡ 8 + 4 * length rows = ap length is ∙ length-ribbon rows in omega (arith, long)

few_rows : (bytes : List ℕ) (rows : List RibbonRow) → bytes ≡ ribbon rows → length bytes ≤ max_file → length rows < 2 ^ 32
few_rows bytes rows is fits = let long : length bytes ≡ 8 + 4 * length rows = ap length is ∙ length-ribbon rows in omega (arith, long, fits)

-- ---- a ribbon that is too long

pub too_long : (size : ℕ) (bytes : List ℕ) (fault : PreviewFault) → size ≡ length bytes → IsTooLong size fault → IsTooLong (length bytes) fault
too_long size bytes fault is (why, long) = (why, subst (λ n. max_file < n) is long)

-- nor was it made, where the first feed stops it
pub not_begun : (faulty : Bool) (from : Galleys) (first last : Shelf) (before after : Option (List ℕ)) (why : PreviewFault) → IsUnbegunAt from faulty first last before after why → AreUnmade from faulty first last before after (record { feed = 0; why = why })
not_begun faulty from first last before after why (inl refused) = inl (refl, refused)
not_begun faulty from first last before after why (inr (case, wedge, give, unadded)) = inr (case, wedge, give, from.first, [], ([], from.others.now, refl, refl, refl), unadded)

module _ (faulty : Bool) (case : CaseValues) (wedge : WedgeValues) (shelf : Shelf) where
  -- ---- one feed

  pub first_galley : (feed : Bor (List ℕ)) (rows : List RibbonRow) → IsGalleyOf faulty case wedge shelf feed.now rows → AreGalleysOf faulty case wedge shelf (feed ∷ []) rows
  first_galley feed rows one = (rows, [], one, refl, sym (append-nil rows))

  pub first_casts : (feed : Bor (List ℕ)) (bytes : List ℕ) → IsRibbonOf faulty case wedge shelf feed.now bytes → CastsAll case wedge shelf (feed ∷ []) bytes
  first_casts feed bytes (set, is, made, casts) =
      (casts.rows, casts.is, casts.got, casts.casts, (set, is, casts.got, [], (casts.values, casts.given, casts.are), refl, sym (append-nil casts.got)))

  -- ---- one more

  more_galleys : (feeds : List (Bor (List ℕ))) (feed : Bor (List ℕ)) (rows more : List RibbonRow) → AreGalleysOf faulty case wedge shelf feeds rows → IsGalleyOf faulty case wedge shelf feed.now more
      → AreGalleysOf faulty case wedge shelf (feeds ++ feed ∷ []) (rows ++ more)
  more_galleys [] feed rows more is one = (more, [], one, refl, ap (λ (l : List RibbonRow). l ++ more) is ∙ sym (append-nil more))
  more_galleys (f ∷ feeds) feed rows more (head, rest, first, all, is) one =
      (head, rest ++ more, first, more_galleys feeds feed rest more all one, ap (λ (l : List RibbonRow). l ++ more) is ∙ append_assoc head rest more)

  more_lines : (feeds : List (Bor (List ℕ))) (feed : Bor (List ℕ)) (set : OpSet) (got more : List Line) → AreLinesOfAll case wedge shelf feeds got → IsSetOf feed.now shelf set → AreLinesOf set case wedge more
      → AreLinesOfAll case wedge shelf (feeds ++ feed ∷ []) (got ++ more)
  more_lines [] feed set got more is of are = (set, of, more, [], are, refl, ap (λ (l : List Line). l ++ more) is ∙ sym (append-nil more))
  more_lines (f ∷ feeds) feed set got more (one, is, head, rest, first, all, sum) of are =
      (one, is, head, rest ++ more, first, more_lines feeds feed set rest more all of are, ap (λ (l : List Line). l ++ more) sum ∙ append_assoc head rest more)

  more_casts : (feeds : List (Bor (List ℕ))) (feed : Bor (List ℕ)) (one next joined : List ℕ) → CastsAll case wedge shelf feeds one → IsRibbonOf faulty case wedge shelf feed.now next → AreJoined one next joined → length joined ≤ max_file
      → CastsAll case wedge shelf (feeds ++ feed ∷ []) joined
  more_casts feeds feed one next joined (rows, is, got, casts, all) (set, of, made, copy) join fits =
      let both : joined ≡ ribbon (rows ++ copy.rows) = join rows copy.rows is.is copy.is.is in (
        rows ++ copy.rows,
        record { is = both; number = few_rows joined (rows ++ copy.rows) both fits; lawful = Each-append IsRow rows copy.rows is.lawful copy.is.lawful },
        got ++ copy.got,
        cast_in_order case wedge rows copy.rows got copy.got casts copy.casts,
        more_lines feeds feed set got copy.got all of (copy.values, copy.given, copy.are),
      )

  -- these bytes are the ribbon of so many feeds
  pub record AreDone (feeds : List (Bor (List ℕ))) (bytes : List ℕ) : Type 0 where
    pub rows : List RibbonRow
    pub galleys : AreGalleysOf faulty case wedge shelf feeds rows
    pub is : bytes ≡ ribbon rows
    pub fits : length bytes ≤ max_file
    pub casts : CastsAll case wedge shelf feeds bytes

  pub first_done : (feed : Bor (List ℕ)) (bytes : List ℕ) → IsRibbonOf faulty case wedge shelf feed.now bytes → length bytes ≤ max_file → AreDone (feed ∷ []) bytes
  first_done feed bytes (set, of, (rows, has, is), copy) fits = record {
    rows = rows;
    galleys = first_galley feed rows (set, of, has);
    is = is;
    fits = fits;
    casts = first_casts feed bytes (set, of, (rows, has, is), copy);
  }

  pub more_done : (feeds : List (Bor (List ℕ))) (feed : Bor (List ℕ)) (one joined : List ℕ) → AreDone feeds one → Adds faulty case wedge shelf feed.now one joined → length joined ≤ max_file → AreDone (feeds ++ feed ∷ []) joined
  more_done feeds feed one joined done (next, (set, of, (rows, has, is), copy), join) fits = record {
    rows = done.rows ++ rows;
    galleys = more_galleys feeds feed done.rows rows done.galleys (set, of, has);
    is = join done.rows rows done.is is;
    fits = fits;
    casts = more_casts feeds feed one next joined done.casts (set, of, (rows, has, is), copy) join fits;
  }

  pub next_done : (first : Bor (List ℕ)) (others : List (Bor (List ℕ))) (at : ℕ) (d : Bor (List ℕ)) (one joined : List ℕ) → at < length others → AreDone (first ∷ take at others) one
      → (mid : Shelf) → mid ≡ shelf → Adds faulty case wedge mid (get_or others at d).now one joined → length joined ≤ max_file → AreDone (first ∷ take (at + 1) others) joined
  next_done first others at d one joined lt done mid still adds fits =
      let more = subst (λ (s : Shelf). Adds faulty case wedge s (get_or others at d).now one joined) still adds in
      subst (λ (l : List (Bor (List ℕ))). AreDone (first ∷ l) joined) (sym (take_more others at d lt)) (more_done (first ∷ take at others) (get_or others at d) one joined done more fits)

  pub all_done : (first : Bor (List ℕ)) (others : List (Bor (List ℕ))) (at : ℕ) (bytes : List ℕ) → take at others ≡ others → AreDone (first ∷ take at others) bytes → AreDone (first ∷ others) bytes
  all_done first others at bytes all done = subst (λ (l : List (Bor (List ℕ))). AreDone (first ∷ l) bytes) all done

  place : (others : List (Bor (List ℕ))) (at : ℕ) (d : Bor (List ℕ)) → at < length others → others ≡ take at others ++ get_or others at d ∷ drop (at + 1) others
  place others at d lt =
      let cut : drop at others ≡ get_or others at d ∷ drop (at + 1) others = rw (add-one, drop-cons others at d) refl in
      sym (take-append-drop at others) ∙ ap (λ (l : List (Bor (List ℕ))). take at others ++ l) cut

  -- the feed of this place did not add its rows
  pub stops_at : (from : Galleys) (at : ℕ) (d : Bor (List ℕ)) (last : Shelf) (before after : Option (List ℕ)) (bytes : List ℕ) (fault : PreviewFault) → at < length from.others.now → GiveMetal from shelf case wedge
      → AreDone (from.first ∷ take at from.others.now) bytes
      → (mid : Shelf) (between : Option (List ℕ)) → mid ≡ shelf → between ≡ before → IsUnaddedTo faulty case wedge (get_or from.others.now at d).now bytes mid last between after fault → StopsAt from faulty shelf last before after (at + 1) fault
  stops_at from at d last before after bytes fault lt give done mid between still silent unadded =
      let here = subst (λ (s : Shelf). IsUnaddedTo faulty case wedge (get_or from.others.now at d).now bytes s last between after fault) still unadded in
      let whole = subst (λ (w : Option (List ℕ)). IsUnaddedTo faulty case wedge (get_or from.others.now at d).now bytes shelf last w after fault) silent here in
      let size : length (from.first ∷ take at from.others.now) ≡ at + 1 = ap suc (length-take-le at from.others.now (omega (arith, lt))) ∙ sym (add-one at) in (
        case,
        wedge,
        give,
        get_or from.others.now at d,
        done.rows,
        (from.first ∷ take at from.others.now, drop (at + 1) from.others.now, ap (λ (l : List (Bor (List ℕ))). from.first ∷ l) (place from.others.now at d lt), size, done.galleys),
        whole done.rows done.is,
      )

  -- where ribbons are not joined
  pub unjoined : (feed : List ℕ) (one next : List ℕ) (last : Shelf) (before after : Option (List ℕ)) (fault : PreviewFault) → last ≡ shelf → after ≡ before → IsRibbonOf faulty case wedge shelf feed next → IsUnjoined one next fault
      → IsUnaddedTo faulty case wedge feed one shelf last before after fault
  unjoined feed one next last before after fault still silent (set, of, (more, has, made), copy) (inl long) rows is =
      inr (inr (still, silent, more, (set, of, has), long rows more is made))
  unjoined feed one next last before after fault still silent (set, of, made, copy) (inr why) rows is =
      inr (inl (still, set, of, inr (inr (why, silent))))
