-- The elements of a walk, in its order and by stamp.
use Rattle.std.proofs.Common.{◌≡◌, ℕ, suc, ◌+◌, ◌≤◌, Bool, false, not, cond, List, [], ◌∷◌, ◌++◌, length, get_or, drop, refl, sym, ap, ◌∙◌, subst, inl, inr, arith, IsPermutation}
use Rattle.std.specs.List.{Contains, filter}
use Rattle.std.specs.List.Sorted.{IsSorted}
use Rattle.std.specs.Ordering.{is_lt, nat_cmp, ordering_then}
use Rattle.std.specs.declared.cmp.Ordering.{Ordering}
use Rattle.std.specs.declared.cmp.Ordering.TheVariants.{Less, Equal, Greater}
use Rattle.std.proofs.lemmas.List.{append-nil, at_drop_all}
use Rattle.std.proofs.lemmas.List.Sorted.{Contains-permutation, ranks_by, sorted_far, sum_by-IsPermutation}
use Rattle.std.proofs.lemmas.List.Sums.{length-filter}
use Rattle.desk_ops.specs.declared.op.Stamp.{Stamp}
use Rattle.desk_ops.specs.Stamp.{before, same, stamp_cmp}
use Rattle.desk_ops.specs.Lists.{Among}
use Rattle.desk_ops.proofs.Lists.{among-at, among-filter, among-filter_from}
use Rattle.desk_ops.proofs.Stamps.{by_cases, same-true, stamp_total}
use Rattle.desk_ops.proofs.Tree.{filter-hit, filter-miss}
use Rattle.desk_seq.specs.declared.Entry.{Entry}
use Rattle.desk_seq.specs.Entries.{AreDistinct, IsAbsent}
use Rattle.feed_history.specs.declared.spots.Spot.{Spot}
use Rattle.std.specs.contracts.prelude.BoolOrd.TheImpl as bool_ord
use Rattle.std.specs.contracts.prelude.CharOrd.TheImpl as char_ord
use Rattle.std.specs.contracts.prelude.UsizeOrd.TheImpl as usize_ord
use Rattle.desk_ops.specs.contracts.op.StyleOrd.TheImpl as style_ord
use Rattle.feed_history.specs.contracts.spots.SpotOrd.TheImpl as spot_ord
use Rattle.desk_replica.specs.Seats.{Rise}
use Rattle.feed_history.specs.Rows.{bearing_by}
use Rattle.feed_history.specs.Spots.{spot_stamp, spots_from}

-- ---- sorted

lt_first : (r t : Ordering) → is_lt (ordering_then r t) ≡ false → is_lt r ≡ false
lt_first Less t e = e
lt_first Equal t e = refl
lt_first Greater t e = refl

lt_second : (r s t : Ordering) → is_lt (ordering_then r (ordering_then s t)) ≡ false → is_lt (ordering_then r s) ≡ false
lt_second Less s t e = e
lt_second Equal s t e = lt_first s t e
lt_second Greater s t e = refl

spot_lt : (x y : Spot) → is_lt ((spot_ord.ghosts).cmp x y) ≡ false → is_lt (stamp_cmp (spot_stamp x) (spot_stamp y)) ≡ false
unfolding stamp_cmp
spot_lt x y e = lt_second (nat_cmp x.counter y.counter) (nat_cmp x.site y.site)
    (ordering_then ((bool_ord.ghosts).cmp x.shown y.shown) (ordering_then ((style_ord.ghosts).cmp x.style y.style) (ordering_then ((char_ord.ghosts).cmp x.ch y.ch) ((usize_ord.ghosts).cmp x.place y.place)))) e

-- sorted, they are by stamp
pub spots_rise : (spots : List Spot) → IsSorted (spot_ord.ghosts).cmp spots → Rise spot_stamp spots
unfolding before stamp_cmp
spots_rise spots up i j d le lt = sorted_far (λ x y. is_lt (stamp_cmp (spot_stamp x) (spot_stamp y))) (ranks_by stamp_total spot_stamp) spots (λ k d low high. spot_lt (get_or spots (k + 1) d) (get_or spots k d) (up k d low high)) i j d le lt

-- ---- moved

contains_among : {X : Type 0} (xs : List X) (x : X) → Among x xs → Contains xs x
contains_among [] x m = absurd m
contains_among (y ∷ ys) x (inl e) = (0, omega arith, e)
contains_among (y ∷ ys) x (inr m) = let c = contains_among ys x m in (suc c.0, omega (arith, c.1), c.2)

one_list : {X : Type 0} (xs : List X) (x : X) → length xs ≡ 1 → Among x xs → xs ≡ x ∷ []
one_list [] x one m = absurd m
one_list (y ∷ []) x one (inl e) = ap (λ z. z ∷ []) e
one_list (y ∷ []) x one (inr m) = absurd m
one_list (y ∷ z ∷ zs) x one m = absurd (omega (arith, one))

no_list : {X : Type 0} (xs : List X) → length xs ≡ 0 → xs ≡ []
no_list [] none = refl
no_list (x ∷ xs) none = absurd (omega (arith, none))

-- what is alone in passing a test is so in any order
moved : {X : Type 0} (p : X → Bool) (xs ys : List X) → IsPermutation xs ys → length (filter p xs) ≤ 1 → filter p ys ≡ filter p xs
moved {X} p xs ys moves few = go (filter p xs) refl few
  where
    count : length (filter p ys) ≡ length (filter p xs)
    count = length-filter p ys ∙ sum_by-IsPermutation (λ x. cond (p x) 1 0) xs ys moves ∙ sym (length-filter p xs)

    go : (l : List X) → filter p xs ≡ l → length l ≤ 1 → filter p ys ≡ l
    go [] e few = no_list (filter p ys) (count ∙ ap length e)
    go (x ∷ []) e few =
        let m = among-filter p xs x (subst (Among x) (sym e) (inl refl)) in
        let c = Contains-permutation xs ys x moves (contains_among xs x m.0) in
        one_list (filter p ys) x (count ∙ ap length e) (among-filter_from p ys x (subst (λ y. Among y ys) c.2 (among-at ys c.0 x c.1)) m.1)
    go (x ∷ y ∷ l) e few = absurd (omega (arith, few))

-- ---- one for each stamp

none_of : (s : Stamp) (place : ℕ) (es : List Entry) → IsAbsent s es → bearing_by spot_stamp (spots_from place es) s ≡ []
none_of s place [] absent = refl
none_of s place (e ∷ es) absent = filter-miss (λ spot. same (spot_stamp spot) s) _ _ absent.0 ∙ none_of s (cond e.deleted place (place + 1)) es absent.1

few_of : (s : Stamp) (place : ℕ) (es : List Entry) → AreDistinct es → length (bearing_by spot_stamp (spots_from place es) s) ≤ 1
few_of s place [] distinct = omega arith
few_of s place (e ∷ es) distinct =
    let next : ℕ = cond e.deleted place (place + 1) in
    let rest : List Spot = spots_from next es in
    let own : Spot = record { counter = e.stamp.counter; site = e.stamp.site; shown = not e.deleted; style = e.symbol.style; ch = e.symbol.ch; place = place } in
    by_cases (same e.stamp s)
    (λ k.
    let none : bearing_by spot_stamp rest s ≡ [] = none_of s next es (subst (λ t. IsAbsent t es) (same-true e.stamp s k) distinct.0) in
    let one : bearing_by spot_stamp (own ∷ rest) s ≡ own ∷ [] = filter-hit (λ spot. same (spot_stamp spot) s) own rest k ∙ ap (λ l. own ∷ l) none in
    omega (arith, ap length one))
    (λ k.
    let less : bearing_by spot_stamp (own ∷ rest) s ≡ bearing_by spot_stamp rest s = filter-miss (λ spot. same (spot_stamp spot) s) own rest k in
    omega (arith, ap length less, few_of s next es distinct.1))

-- all of the walk, sorted, are found by stamp as in its order
pub found_alike : (es : List Entry) (spots sorted : List Spot) (place at : ℕ) → AreDistinct es → length es ≤ at → spots ++ spots_from place (drop at es) ≡ spots_from 0 es → IsPermutation spots sorted
    → (s : Stamp) → bearing_by spot_stamp sorted s ≡ bearing_by spot_stamp (spots_from 0 es) s
found_alike es spots sorted place at distinct past so_far moves s =
    let all : spots ≡ spots_from 0 es = sym (append-nil spots) ∙ ap (λ l. spots ++ l) (sym (at_drop_all (spots_from place) es at past)) ∙ so_far in
    moved (λ spot. same (spot_stamp spot) s) (spots_from 0 es) sorted (subst (λ l. IsPermutation l sorted) all moves) (few_of s 0 es distinct)
