-- The first row that falls, found row by row.
use Rattle.std.proofs.Common.{◌≡◌, ℕ, zero, suc, ◌+◌, ◌-◌, ◌≤◌, ◌<◌, Bool, true, false, List, [], ◌∷◌, length, Option, Some, None, if◌then◌else◌, refl, sym, arith, inl, inr}
use Rattle.std.specs.Prelude.{nat_lt, MatchOption, slice_index}
use Rattle.std.specs.List.Sorted.{IsNonDecreasing}
use Rattle.std.proofs.lemmas.List.Sorted.{IsNonDecreasingBy-from_default}
use Rattle.std.proofs.lemmas.Bool.{cases_lt}
use Rattle.std.proofs.lemmas.Bool.Decides.{nat_tests}
use Rattle.desk_wedge.specs.File.{descent_from, first_descent}
use Rattle.desk_wedge.specs.Descent.{FallsAt, IsFirstFall, DescentIsFirstFall}

-- no fall from an index of a list to the next
abbrev pub IsKept : List ℕ → ℕ → Type 0
IsKept us k = slice_index us k ≤ slice_index us (suc k)

-- the first fall of a list, from an index to the next
pub record FallsFirst (us : List ℕ) (k : ℕ) : Type 0 where
  pub within : suc k < length us
  pub fewer : slice_index us (suc k) < slice_index us k
  pub kept : (j : ℕ) → j < k → IsKept us j

-- where a list's second element stands in this row
pub record FallsFirstAt (row : ℕ) (us : List ℕ) (found : ℕ) : Type 0 where
  pub index : ℕ
  pub is : found ≡ row + index
  pub falls : FallsFirst us index

pub record NeverFalls (us : List ℕ) : Type 0 where
  pub kept : (k : ℕ) → suc k < length us → IsKept us k

kept_all : (b u : ℕ) (us : List ℕ) → b ≤ u → NeverFalls (u ∷ us) → (k : ℕ) → suc k < length (b ∷ u ∷ us) → IsKept (b ∷ u ∷ us) k
kept_all b u us h rest zero within = h
kept_all b u us h rest (suc k) within = rest.kept k (omega arith)

kept_until : (b u : ℕ) (us : List ℕ) (k : ℕ) → b ≤ u → FallsFirst (u ∷ us) k → (j : ℕ) → j < suc k → IsKept (b ∷ u ∷ us) j
kept_until b u us k h rest zero below = h
kept_until b u us k h rest (suc j) below = rest.kept j (omega arith)

falls_later : (b u : ℕ) (us : List ℕ) (k : ℕ) → b ≤ u → FallsFirst (u ∷ us) k → FallsFirst (b ∷ u ∷ us) (suc k)
falls_later b u us k h rest =
    record { within = omega (arith, rest.within); fewer = rest.fewer; kept = kept_until b u us k h rest }

descent_at : (row b u : ℕ) (us : List ℕ) (t : Bool) (rest : Option ℕ) → nat_lt u b ≡ t
    → MatchOption rest (NeverFalls (u ∷ us)) (FallsFirstAt (row + 1) (u ∷ us))
    → MatchOption (if t then Some row else rest) (NeverFalls (b ∷ u ∷ us)) (FallsFirstAt row (b ∷ u ∷ us))
descent_at row b u us true rest test ih =
    let less : u < b = grind (arith, nat_tests) in
    record { index = 0; is = omega arith; falls = record { within = omega arith; fewer = less; kept = λ j below. absurd (omega arith) } }
descent_at row b u us false None test ih = record { kept = kept_all b u us (grind (arith, nat_tests)) ih }
descent_at row b u us false (Some r) test ih =
    record { index = suc ih.index; is = omega (arith, ih.is); falls = falls_later b u us ih.index (grind (arith, nat_tests)) ih.falls }

pub descent : (row b : ℕ) (us : List ℕ) → MatchOption (descent_from row b us) (NeverFalls (b ∷ us)) (FallsFirstAt row (b ∷ us))
descent row b [] = record { kept = λ k within. absurd (omega arith) }
descent row b (u ∷ us) = descent_at row b u us (nat_lt u b) (descent_from (row + 1) u us) refl (descent (row + 1) u us)

-- steps that never fall, joined
far : (us : List ℕ) → NeverFalls us → (i m : ℕ) → i + m < length us → slice_index us i ≤ slice_index us (i + m)
far us h i zero within = let same : i + zero ≡ i = omega arith in rw same (omega arith)
far us h i (suc m) within =
    let on : i + suc m ≡ suc (i + m) = omega arith in
    rw on (omega (arith, far us h i m (omega arith), h.kept (i + m) (omega arith)))

pub rising : (b : ℕ) (us : List ℕ) → NeverFalls (b ∷ us) → IsNonDecreasing us
rising b us h = IsNonDecreasingBy-from_default (λ x. x) us 0 (λ i j le lt.
    let same : suc i + (j - i) ≡ suc j = omega arith in
    rw same at (far (b ∷ us) h (suc i) (j - i) (omega arith)))

-- the first row has none before it
earlier_at : (us : List ℕ) (i other j : ℕ) → other ≡ 2 + j → FallsFirst (0 ∷ us) (suc i) → FallsAt us other → 2 + i ≤ other
earlier_at us i other j is h at =
    let row : other - 1 ≡ suc j = omega arith in
    let before : other - 2 ≡ j = omega arith in
    let fewer = rw (row, before) at at.fewer in
    elim (cases_lt j i) [
      | inl above ↦ absurd (omega (arith, h.kept (suc j) (omega arith), fewer))
      | inr below ↦ omega arith
    ]

no_earlier : (us : List ℕ) (i other : ℕ) → FallsFirst (0 ∷ us) (suc i) → FallsAt us other → 2 + i ≤ other
no_earlier us i other h at = earlier_at us i other (other - 2) (omega (arith, at.later)) h at

first_falls_at : (us : List ℕ) (found i : ℕ) → found ≡ 1 + i → FallsFirst (0 ∷ us) i → IsFirstFall us found
first_falls_at us found zero is h = absurd (omega (arith, h.fewer))
first_falls_at us found (suc i) is h =
    let here : found ≡ 2 + i = omega arith in
    let row : 2 + i - 1 ≡ suc i = omega arith in
    let before : 2 + i - 2 ≡ i = omega arith in
    rw here (record {
      falls = record { later = omega arith; within = omega (arith, h.within); fewer = rw (row, before) h.fewer };
      least = λ other at. no_earlier us i other h at;
    })

law_at : (us : List ℕ) (o : Option ℕ) → MatchOption o (NeverFalls (0 ∷ us)) (FallsFirstAt 1 (0 ∷ us)) → MatchOption o (IsNonDecreasing us) (IsFirstFall us)
law_at us None h = rising 0 us h
law_at us (Some found) h = first_falls_at us found h.index h.is h.falls

pub law : DescentIsFirstFall
law us = law_at us (first_descent us) (descent 1 0 us)

pub none_rises : (us : List ℕ) → None ≡ first_descent us → IsNonDecreasing us
none_rises us none = let reported = law us in rw (sym none) at reported
