-- Where one set holds all of the other, nothing is open.
use Rattle.std.proofs.Common.{◌≡◌, ◌∙◌, ℕ, ◌+◌, Bool, true, false, not, ◌&&◌, cond, List, [], ◌∷◌, ◌++◌, length, map, refl, sym, ap, ap₂, subst, inr, append_assoc, length-append, arith}
use Rattle.std.specs.Prelude.{Option, Some, None}
use Rattle.desk_ops.specs.declared.op.Stamp.{Stamp}
use Rattle.desk_ops.specs.OpSet.{OpSet, IsWithin}
use Rattle.desk_ops.specs.Stamp.{same}
use Rattle.desk_ops.proofs.Stamps.{same-refl, same-symm}
use Rattle.desk_ops.proofs.Unions.{union-comm}
use Rattle.feed_readings.specs.declared.reading.Point.{Point}
use Rattle.feed_readings.specs.declared.reading.Shown.{Shown}
use Rattle.feed_readings.specs.Apart.{AreApart, BearsNot}
use Rattle.feed_readings.specs.Cuts.{cuts_from, is_white, is_white_at, place_from, place_of, point_of, with_cut}
use Rattle.feed_readings.specs.Laws.{swapped}
use Rattle.feed_readings.specs.Merged.{readings_of, shown_list}
use Rattle.feed_readings.specs.Pieces.{behind, ends, is_open, part, pieces_from, start}
use Rattle.feed_readings.specs.Readings.{open_readings, rows}
use Rattle.feed_readings.proofs.Alike.{alike}
use Rattle.feed_readings.proofs.Settling.{settles_from, symbols}
use Rattle.feed_readings.proofs.Sets.{common_swapped, common_within, union_within}

-- ---- an element stands at its own place

bears_not : (s : Stamp) (xs : List Shown) (e : Shown) (ys : List Shown) → BearsNot s (xs ++ e ∷ ys) → same e.stamp s ≡ false
bears_not s [] e ys h = h.0
bears_not s (x ∷ xs) e ys h = bears_not s xs e ys h.1

and_false : (a b : Bool) → b ≡ false → (a && b) ≡ false
and_false true b e = e
and_false false b e = refl

own_from : (n : ℕ) (xs : List Shown) (e : Shown) (ys : List Shown) → AreApart (xs ++ e ∷ ys) → is_white e.symbol ≡ true → place_from n (xs ++ e ∷ ys) e.stamp ≡ Some (n + length xs)
own_from n [] e ys h white =
    let here : is_white_at e.stamp e ≡ true = ap (λ (b : Bool). b && same e.stamp e.stamp) white ∙ same-refl e.stamp in
    let same : n ≡ n + 0 = omega arith in
    ap (λ (b : Bool). cond b (Some n) (place_from (n + 1) ys e.stamp)) here ∙ ap (λ (k : ℕ). Some k) same
own_from n (x ∷ xs) e ys h white =
    let other : is_white_at e.stamp x ≡ false = and_false (is_white x.symbol) (same x.stamp e.stamp) (same-symm x.stamp e.stamp ∙ bears_not x.stamp xs e ys h.0) in
    let more : (n + 1) + length xs ≡ n + length (x ∷ xs) = omega arith in
    ap (λ (b : Bool). cond b (Some n) (place_from (n + 1) (xs ++ e ∷ ys) e.stamp)) other ∙ own_from (n + 1) xs e ys h.1 white ∙ ap (λ (k : ℕ). Some k) more

own_place : (xs : List Shown) (e : Shown) (ys : List Shown) → AreApart (xs ++ e ∷ ys) → is_white e.symbol ≡ true → place_of (xs ++ e ∷ ys) e.stamp ≡ Some (length xs)
own_place xs e ys h white = let same : 0 + length xs ≡ length xs = omega arith in own_from 0 xs e ys h white ∙ ap (λ (k : ℕ). Some k) same

-- ---- all cuts are twins

-- what two have in common is the other, and both make the one
pub record IsTwin (p : Point) : Type 0 where
  pub was : p.base ≡ p.other
  pub is : p.one ≡ p.both

AllTwins : List Point → Type 0
AllTwins [] = Unit {0}
AllTwins (p ∷ ps) = IsTwin p × AllTwins ps

twin_point : (o : Option ℕ) (n : ℕ) (ps : List Point) → AllTwins ps → AllTwins (with_cut (point_of o (Some n) o n) ps)
unfolding AllTwins
twin_point None n ps t = t
twin_point (Some k) n ps t = (record { was = refl; is = refl }, t)

cuts_twins : (os whole xs list : List Shown) → whole ≡ xs ++ list → AreApart whole → AllTwins (cuts_from os whole os (length xs) list)
unfolding AllTwins
cuts_twins os whole xs [] is apart = tt
cuts_twins os whole xs (e ∷ list) is apart =
    let next : length (xs ++ e ∷ []) ≡ length xs + 1 = length-append xs (e ∷ []) ∙ omega arith in
    let more : whole ≡ (xs ++ e ∷ []) ++ list = is ∙ sym (append_assoc xs (e ∷ []) list) in
    by (subst (λ (k : ℕ). AllTwins (cuts_from os whole os k list)) next (cuts_twins os whole (xs ++ e ∷ []) list more apart)) (is_white e.symbol) refl
  where
    by : AllTwins (cuts_from os whole os (length xs + 1) list) → (b : Bool) → is_white e.symbol ≡ b
        → AllTwins (with_cut (cond b (point_of (place_of os e.stamp) (place_of whole e.stamp) (place_of os e.stamp) (length xs)) None) (cuts_from os whole os (length xs + 1) list))
    by rest false white = rest
    by rest true white =
        let own : place_of whole e.stamp ≡ Some (length xs) = ap (λ (l : List Shown). place_of l e.stamp) is ∙ own_place xs e list (subst AreApart is apart) white in
        subst (λ (o : Option ℕ). AllTwins (with_cut (point_of (place_of os e.stamp) o (place_of os e.stamp) (length xs)) (cuts_from os whole os (length xs + 1) list))) (sym own)
        (twin_point (place_of os e.stamp) (length xs) (cuts_from os whole os (length xs + 1) list) rest)

-- ---- all pieces are closed

piece_closed : (os ws : List Shown) (from to : Point) → IsTwin from → IsTwin to → is_open os ws os ws (record { from = from; to = to }) ≡ false
piece_closed os ws from to f t =
    ap not (settles_from (part os from.base to.base) (part ws from.one to.one) (part os from.other to.other) (part ws from.both to.both)
    (inr (inr (ap₂ (λ (a b : ℕ). symbols (part os a b)) f.was t.was, sym (ap₂ (λ (a b : ℕ). symbols (part ws a b)) f.is t.is)))))

behind_twin : (p : Point) → IsTwin p → IsTwin (behind p)
behind_twin p t = record { was = ap (λ (k : ℕ). k + 1) t.was; is = ap (λ (k : ℕ). k + 1) t.is }

no_rows : (os ws : List Shown) (from : Point) (cuts : List Point) (end : Point) → IsTwin from → AllTwins cuts → IsTwin end → rows (is_open os ws os ws) None (pieces_from from cuts end) ≡ []
unfolding AllTwins
no_rows os ws from [] end f t e = rw (piece_closed os ws from end f e) refl
no_rows os ws from (cut ∷ cuts) end f t e = rw (piece_closed os ws from cut f t.0) (no_rows os ws (behind cut) cuts end (behind_twin cut t.0) t.1 e)

pub no_readings : (os ws : List Shown) → AreApart ws → open_readings os ws os ws ≡ []
no_readings os ws apart =
    no_rows os ws start (cuts_from os ws os 0 ws) (ends os ws os ws) (record { was = refl; is = refl }) (cuts_twins os ws [] ws refl apart) (record { was = refl; is = refl })

pub none_other : (one other : OpSet) → AreApart (shown_list one) → IsWithin other one → readings_of one other ≡ []
none_other one other apart h =
    ap₂ (λ (common both : OpSet). open_readings (shown_list common) (shown_list one) (shown_list other) (shown_list both)) (common_within one other h) (union_within one other h)
    ∙ no_readings (shown_list other) (shown_list one) apart

pub none_one : (one other : OpSet) → AreApart (shown_list other) → IsWithin one other → readings_of one other ≡ []
none_one one other apart h =
    ap₂ (λ (common both : OpSet). open_readings (shown_list common) (shown_list one) (shown_list other) (shown_list both)) (common_swapped one other ∙ common_within other one h) (union-comm one other ∙ union_within other one h)
    ∙ alike (shown_list one) (shown_list other) (shown_list one) (shown_list other)
    ∙ ap (map swapped) (no_readings (shown_list one) (shown_list other) apart)
