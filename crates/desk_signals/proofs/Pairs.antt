-- The letters of a column among signals.
use Rattle.std.proofs.Common.{◌≡◌, ◌<◌, Bool, true, false, not, ◌||◌, ◌&&◌, List, [], ◌∷◌, length, refl, sym, ap, subst, ◌∙◌, eqb-true, lt-ltb, arith}
use Rattle.std.specs.List.Sorted.{IsPermutation}
use Rattle.std.proofs.lemmas.List.Sorted.{IsPermutation-refl, IsPermutation-trans, IsPermutation-insert, list_any-IsPermutation, length_permutation}
use Rattle.std.proofs.lemmas.Bool.{and_parts, not-false}
use Rattle.desk_signals.specs.declared.Column.TheVariants as column
use Rattle.desk_signals.specs.declared.Signal.{Signal}
use Rattle.desk_signals.specs.declared.Signal.TheVariants as signal
use Rattle.desk_signals.specs.Rows.{has, same, letters, letters_of, is_letter, is_pair, two_letters}
use Rattle.desk_signals.proofs.Same.{same-eq, has_filter, take_out}

only_one : (zs : List Signal) (b : Signal) → length zs ≡ 1 → has zs b ≡ true → zs ≡ b ∷ []
only_one [] b few there = absurd (omega (arith, few))
only_one (z ∷ []) b few there = only_there z b (same b z) refl there
  where
    only_there : (z b : Signal) (t : Bool) → same b z ≡ t → (t || false) ≡ true → z ∷ [] ≡ b ∷ []
    only_there z b true is there = ap (λ (x : Signal). x ∷ []) (sym (same-eq b z is))
    only_there z b false is there = absurd (cc)
only_one (z ∷ y ∷ zs) b few there = absurd (omega (arith, few))

-- two signals in a list of two
of_two : (ys : List Signal) (a b : Signal) → length ys ≡ 2 → has ys a ≡ true → has ys b ≡ true → same b a ≡ false → IsPermutation (b ∷ a ∷ []) ys
of_two ys a b few there also other =
    let found = take_out ys a there in
    let back : IsPermutation (a ∷ found.rest) ys =
    subst (λ l. IsPermutation (a ∷ found.rest) l) (sym found.is) (IsPermutation-insert found.rest found.at a) in
    let long : length found.rest ≡ 1 = omega (arith, few, length_permutation (a ∷ found.rest) ys back) in
    let left : has found.rest b ≡ true =
    ap (λ t. t || has found.rest b) (sym other) ∙ (list_any-IsPermutation (same b) (a ∷ found.rest) ys back ∙ also) in
    IsPermutation-trans (b ∷ a ∷ []) (a ∷ b ∷ []) ys (IsPermutation-insert (a ∷ []) 1 b)
    (subst (λ l. IsPermutation (a ∷ l) ys) (only_one found.rest b long left) back)

among_letters : (xs : List Signal) (y : Signal) → is_letter y ≡ true → has xs y ≡ true → has (letters xs) y ≡ true
among_letters xs y is there = has_filter is_letter xs y ∙ rw (is, there) refl

pair_of : (xs : List Signal) → two_letters xs ≡ false → 1 < length (letters xs) → is_pair xs ≡ true
pair_of xs few many = not-false (is_pair xs) (ap (λ b. b && not (is_pair xs)) (sym (lt-ltb 1 (length (letters xs)) many)) ∙ few)

then_second : (a b : Bool) → (a || b) ≡ true → a ≡ false → b ≡ true
then_second true b e is = absurd (cc)
then_second false b e is = e

pub n_and_i : (xs : List Signal) → two_letters xs ≡ false → 1 < length (letters xs) → true ≡ has xs signal.I → IsPermutation (letters_of column.NI) (letters xs)
n_and_i xs few many there =
    let parts = and_parts _ _ (pair_of xs few many) in
    let first = and_parts _ _ parts.0 in
    of_two (letters xs) signal.N signal.I (eqb-true (length (letters xs)) 2 first.0)
    (among_letters xs signal.N refl first.1) (among_letters xs signal.I refl (sym there)) refl

pub n_and_l : (xs : List Signal) → two_letters xs ≡ false → 1 < length (letters xs) → false ≡ has xs signal.I → IsPermutation (letters_of column.NL) (letters xs)
n_and_l xs few many there =
    let parts = and_parts _ _ (pair_of xs few many) in
    let first = and_parts _ _ parts.0 in
    let also = then_second (has xs signal.I) (has xs signal.L) parts.1 (sym there) in
    of_two (letters xs) signal.N signal.L (eqb-true (length (letters xs)) 2 first.0)
    (among_letters xs signal.N refl first.1) (among_letters xs signal.L refl also) refl

pub as_they_stand : (xs ys : List Signal) → ys ≡ xs → IsPermutation xs ys
as_they_stand xs ys e = subst (λ zs. IsPermutation xs zs) (sym e) (IsPermutation-refl xs)
