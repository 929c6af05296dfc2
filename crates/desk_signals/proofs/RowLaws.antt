-- Rows and lawful signals are one to one.
use Rattle.std.proofs.Common.{◌≡◌, ℕ, zero, suc, ◌<◌, ◌≤◌, Bool, true, false, cond, ◌||◌, List, [], ◌∷◌, length, get_or, refl, sym, ap, ◌∙◌, arith}
use Rattle.std.specs.Prelude.{sum_by}
use Rattle.std.proofs.lemmas.List.Folds.{list_any_at}
use Rattle.std.proofs.lemmas.List.Sorted.{list_any-IsPermutation, sum_by-IsPermutation}
use Rattle.std.proofs.Math.Bool.{or-true}
use Rattle.desk_signals.specs.declared.Signal.{Signal}
use Rattle.desk_signals.specs.declared.RibbonRow.{RibbonRow}
use Rattle.desk_signals.specs.Rows.{IsRow, Spells, signals_of, has, same, repeats, Repeats}
use Rattle.desk_signals.specs.RowLaws.{RepeatsAreTwoPlaces, RowsAreSignalSets, SignalsHaveOneRow}
use Rattle.desk_signals.proofs.Same.{lone, no_repeats, same_times, times, same-eq, same-refl, filter-permutation}
use Rattle.desk_signals.proofs.Table.{row_in, row_once, row_weighed, weight}

pub signals_have_one_row : SignalsHaveOneRow
signals_have_one_row signals a b is_a is_b spells_a spells_b =
    let sums : sum_by weight (signals_of a) ≡ sum_by weight (signals_of b) =
    sym (sum_by-IsPermutation weight (signals_of a) signals spells_a) ∙ sum_by-IsPermutation weight (signals_of b) signals spells_b in
    sym (row_weighed a is_a) ∙ (ap row_in sums ∙ row_weighed b is_b)

length_once : (b : Bool) (y : Signal) → length (cond b (y ∷ []) []) ≡ cond b 1 0
length_once true y = refl
length_once false y = refl

at_most_one : (b : Bool) → cond b 1 0 ≤ 1
at_most_one true = omega arith
at_most_one false = omega arith

times_once : (xs : List Signal) (y : Signal) → repeats xs ≡ false → times xs y ≡ cond (has xs y) 1 0
times_once xs y none = ap length (lone xs y none) ∙ length_once (has xs y) y

pub spelled_once : (signals : List Signal) (row : RibbonRow) → IsRow row → Spells signals row → repeats signals ≡ false
spelled_once signals row is spells =
    no_repeats signals
    (λ y. let e = sym (filter-permutation (same y) (signals_of row) signals spells) ∙ times_once (signals_of row) y (row_once row is) in
    omega (arith, e, at_most_one (has (signals_of row) y)))

pub rows_are_signal_sets : RowsAreSignalSets
rows_are_signal_sets signals row is = (
  λ spells. (spelled_once signals row is spells, λ x. sym (list_any-IsPermutation (same x) (signals_of row) signals spells)),
  λ (once, alike). same_times (signals_of row) signals
      (λ x. times_once (signals_of row) x (row_once row is) ∙ (ap (λ b. cond b 1 0) (sym (alike x)) ∙ sym (times_once signals x once))),
)

-- where a signal stands
record Place (xs : List Signal) (x : Signal) : Type 0 where
  at : ℕ
  below : at < length xs
  is : (d : Signal) → x ≡ get_or xs at d

place_step : (x y : Signal) (xs : List Signal) (b : Bool) → same x y ≡ b → (b || has xs x) ≡ true → (has xs x ≡ true → Place xs x) → Place (y ∷ xs) x
place_step x y xs true is there rec = record { at = 0; below = omega arith; is = λ d. same-eq x y is }
place_step x y xs false is there rec =
    let found = rec there in
    record { at = suc found.at; below = omega (arith, found.below); is = found.is }

place_of : (xs : List Signal) (x : Signal) → has xs x ≡ true → Place xs x
place_of [] x there = absurd (cc)
place_of (y ∷ xs) x there = place_step x y xs (same x y) refl there (place_of xs x)

two_step : (x : Signal) (xs : List Signal) (b : Bool) → has xs x ≡ b → (b || repeats xs) ≡ true → (repeats xs ≡ true → Repeats xs) → Repeats (x ∷ xs)
two_step x xs true is there rec =
    let found = place_of xs x is in (0, suc found.at, omega arith, omega (arith, found.below), λ d. found.is d)
two_step x xs false is there rec =
    let (i, j, before, below, alike) = rec there in (suc i, suc j, omega (arith, before), omega (arith, below), alike)

two_places : (xs : List Signal) → repeats xs ≡ true → Repeats xs
two_places [] there = absurd (cc)
two_places (x ∷ xs) there = two_step x xs (has xs x) refl there (two_places xs)

found_twice : (xs : List Signal) (i j : ℕ) → i < j → j < length xs → ((d : Signal) → get_or xs i d ≡ get_or xs j d) → repeats xs ≡ true
found_twice [] i j before below alike = absurd (omega (arith, below))
found_twice (x ∷ xs) i zero before below alike = absurd (omega (arith, before))
found_twice (x ∷ xs) zero (suc j) before below alike =
    let e : has xs x ≡ true =
    list_any_at (same x) xs j x (omega (arith, below)) (ap (same x) (sym (alike x)) ∙ same-refl x) in
    ap (λ b. b || repeats xs) e
found_twice (x ∷ xs) (suc i) (suc j) before below alike =
    let e = found_twice xs i j (omega (arith, before)) (omega (arith, below)) alike in
    ap (λ b. has xs x || b) e ∙ or-true (has xs x)

pub repeats_are_two_places : RepeatsAreTwoPlaces
repeats_are_two_places signals = (two_places signals, λ (i, j, before, below, alike). found_twice signals i j before below alike)
