-- Where two copies differ, and how what they have there begins.
use Rattle.std.proofs.Common.{◌≡◌, ◌∙◌, ◌≤◌, ◌<◌, ◌⊎◌, inl, inr, ℕ, ◌+◌, ◌-◌, true, false, Bool, List, [], ◌∷◌, ◌++◌, length, take, drop, get_or, refl, sym, ap, ap₂, subst, arith}
use Rattle.std.specs.List.{slice_range}
use Rattle.std.proofs.Math.Seq.{drop-append_seam}
use Rattle.std.proofs.lemmas.Bool.{cases_lt, true≢false}
use Rattle.std.proofs.lemmas.List.{at_drop_more, get_or-drop, get_or-take, length-drop, length-take-le}
use Rattle.desk_ops.proofs.Symbols.{same_symbols}
use Rattle.desk_ops.specs.contracts.op.SymbolPartialEq.TheImpl as symbol_eq
use Rattle.desk_ops.specs.declared.op.Symbol.{Symbol}
use Rattle.feed_sites.specs.declared.stretch.Point.{Point}
use Rattle.feed_sites.specs.declared.stretches.Front.{Front}
use Rattle.feed_sites.specs.Walking.{IsAlike, IsAlong, IsParted, IsStep}
use Rattle.feed_sites.specs.Stretches.{BeginsApart, IsReached, is_whole, of_one, of_other}
use Rattle.feed_sites.proofs.Parts.{none_between, range_join, same_farther}

-- ---- a part of a list

length-range : {A : Type 0} (xs : List A) (a b : ℕ) → a ≤ b → b ≤ length xs → length (slice_range xs a b) ≡ b - a
length-range xs a b le within = let long = length-drop a xs in length-take-le (b - a) (drop a xs) (omega (arith, long, le, within))

first-range : {A : Type 0} (xs : List A) (a b : ℕ) (d : A) → a < b → get_or (slice_range xs a b) 0 d ≡ get_or xs a d
first-range xs a b d lt =
    let none : a + 0 ≡ a = omega arith in
    get_or-take (b - a) (drop a xs) 0 d (omega (arith, lt)) ∙ get_or-drop a xs 0 d ∙ ap (λ n. get_or xs n d) none

one_there : {A : Type 0} (xs : List A) (a : ℕ) (d : A) → a < length xs → slice_range xs a (a + 1) ≡ get_or xs a d ∷ []
one_there xs a d lt = let one : a + 1 - a ≡ 1 = omega arith in ap (λ n. take n (drop a xs)) one ∙ at_drop_more (take 1) xs a d lt

-- ---- two copies behind a point

module _ (one other : List Symbol) where
  -- what is the same is as long
  as_long : (a p : Point) → IsReached one other a p → of_one one a p ≡ of_other other a p → p.one - a.one ≡ p.other - a.other
  as_long a p r same = sym (length-range one a.one p.one r.one_rises r.one_within) ∙ ap length same ∙ length-range other a.other p.other r.other_rises r.other_within

  same_behind : (a q p : Point) → IsReached one other a q → IsReached one other q p → of_one one a q ≡ of_other other a q → of_one one a p ≡ of_other other a p → of_one one q p ≡ of_other other q p
  same_behind a q p r s same all =
      let joined : of_one one a q ++ of_one one q p ≡ of_other other a q ++ of_other other q p = sym (range_join one a.one q.one p.one r.one_rises s.one_rises) ∙ all ∙ range_join other a.other q.other p.other r.other_rises s.other_rises in
      sym (drop-append_seam (of_one one a q) (of_one one q p)) ∙ ap₂ (λ l n. drop n l) joined (ap length same) ∙ drop-append_seam (of_other other a q) (of_other other q p)

  parted : (at : Point) (d : Symbol) → (get_or one at.one d ≡ get_or other at.other d → ⊥) → IsParted one other at
  parted at d unlike p r lt same =
      let long = as_long at p r same in
      unlike (sym (first-range one at.one p.one d lt) ∙ ap (λ l. get_or l 0 d) same ∙ first-range other at.other p.other d (omega (arith, long, lt)))

  pub parted_by : (at : Point) (d : Symbol) (is : Bool) → is ≡ (symbol_eq.eq-value).it (get_or one at.one d) (get_or other at.other d) → is ≡ false → IsParted one other at
  parted_by at d is reported fails = parted at d (λ same. true≢false (sym (reported ∙ (same_symbols (get_or one at.one d) (get_or other at.other d)).1 same) ∙ fails))

  along : (from to : Point) (d : Symbol) → IsReached one other from to → to.one ≡ from.one + 1 → to.other ≡ from.other + 1 → get_or one from.one d ≡ get_or other from.other d → IsAlong one other from to
  along from to d r far far_other same = record {
    farther = far;
    same = record {
      reached = r;
      same =
          ap (slice_range one from.one) far ∙ one_there one from.one d (omega (arith, far, r.one_within)) ∙ ap (λ s. s ∷ []) same
          ∙ sym (ap (slice_range other from.other) far_other ∙ one_there other from.other d (omega (arith, far_other, r.other_within)));
    };
  }

  pub along_by : (from to : Point) (d : Symbol) (is : Bool) → IsReached one other from to → to.one ≡ from.one + 1 → to.other ≡ from.other + 1
      → is ≡ (symbol_eq.eq-value).it (get_or one from.one d) (get_or other from.other d) → is ≡ true → IsAlong one other from to
  along_by from to d is r far far_other reported holds = along from to d r far far_other ((same_symbols (get_or one from.one d) (get_or other from.other d)).0 (sym reported ∙ holds))

  point_is : (p q : Point) → p.one ≡ q.one → p.other ≡ q.other → p ≡ q
  point_is p q a b i = record { one = a i; other = b i }

  -- ---- a walk

  abbrev pub IsBegun : Front → Point → ℕ → Type 0
  IsBegun front point limit = IsAlike one other front point limit ⊎ BeginsApart one other front.open (length one)

  -- it begins where no word was compared
  pub begun_here : (point at : Point) (limit : ℕ) → IsReached one other at point → limit ≤ point.one + 1 → IsBegun (record { «open» = point; last = point }) point limit
  begun_here point at limit r le = inl (record { same = none_between one other at point r; last = refl; apart = λ p whole s lt in_limit same. omega (arith, le, lt, in_limit) })

  -- a step
  pub begun_next : (front : Front) (point next : Point) → IsReached one other front.open point → IsStep one other point next → IsBegun front point (point.one + 1) → IsBegun front next next.one
  begun_next front point next r step (inr apart) = inr apart
  begun_next front point next r step (inl alike) = at step.along
    where
      at : IsAlong one other point next ⊎ IsParted one other point → IsBegun front next next.one
      at (inl along) = inl (record {
        same = same_farther one other front.open point next alike.same along.same;
        last = alike.last;
        apart = λ p whole s lt in_limit. alike.apart p whole s lt (omega (arith, in_limit, along.farther));
      })
      at (inr parted) = inr (λ p whole s lt le same. elim (cases_lt p.one (point.one + 1)) [
        | inl in_limit ↦ alike.apart p whole s lt in_limit same
        | inr beyond ↦
            let long = as_long front.open p s same in
            let long_before = as_long front.open point r alike.same.same in
            let behind : IsReached one other point p = record { one_rises = omega (arith, beyond); other_rises = omega (arith, long, long_before, beyond, s.other_rises, r.other_rises, r.one_rises); one_within = s.one_within; other_within = s.other_within } in
            parted p behind (omega (arith, beyond)) (same_behind front.open point p r behind alike.same.same same)
      ])

  -- a point where no words are whole
  pub begun_within : (front : Front) (point : Point) → is_whole one other point ≡ false → IsBegun front point point.one → IsBegun front point (point.one + 1)
  begun_within front point fails (inr apart) = inr apart
  begun_within front point fails (inl alike) = inl (record {
    same = alike.same;
    last = alike.last;
    apart = λ p whole s lt in_limit same. elim (cases_lt p.one point.one) [
      | inl before ↦ alike.apart p whole s lt before same
      | inr le ↦
          let r : IsReached one other front.open point = alike.same.reached in
          let long = as_long front.open p s same in
          let long_before = as_long front.open point r alike.same.same in
          let is_one : p.one ≡ point.one = omega (arith, le, in_limit) in
          let is_other : p.other ≡ point.other = omega (arith, long, long_before, is_one, s.other_rises, r.other_rises, r.one_rises, lt) in
          true≢false (sym whole ∙ ap (is_whole one other) (point_is p point is_one is_other) ∙ fails)
    ];
  })

  -- a point where words are whole, and those behind the last such point are not the same
  pub begun_apart : (front : Front) (point : Point) → ((front.last.one < point.one) × (of_one one front.last point ≡ of_other other front.last point) → ⊥) → IsBegun front point point.one
      → IsBegun (record { «open» = front.open; last = point }) point (point.one + 1)
  begun_apart front point unkept (inr apart) = inr apart
  begun_apart front point unkept (inl alike) = elim (cases_lt front.open.one point.one) [
    | inl lt ↦ absurd (unkept (subst (λ (l : Point). (l.one < point.one) × (of_one one l point ≡ of_other other l point)) (sym alike.last) (lt, alike.same.same)))
    | inr le ↦
        let r : IsReached one other front.open point = alike.same.reached in
        let long = as_long front.open point r alike.same.same in
        inl (record {
          same = alike.same;
          last = point_is point front.open (omega (arith, le, r.one_rises)) (omega (arith, le, r.one_rises, long, r.other_rises));
          apart = λ p whole s lt in_limit same. omega (arith, le, lt, in_limit);
        })
  ]
