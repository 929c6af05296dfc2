-- Numbers that descend.
use Rattle.std.proofs.Common.{◌≡◌, ◌∙◌, ℕ, zero, suc, ◌≤◌, ◌<◌, Bool, true, ◌&&◌, List, [], ◌∷◌, length, get_or, refl, sym, arith}
use Rattle.std.specs.Prelude.{IsTrue, nat_lt}
use Rattle.std.proofs.Common.{◌-◌, take, drop}
use Rattle.std.proofs.lemmas.List.{take_all}
use Rattle.std.specs.List.{AllPairs}
use Rattle.std.proofs.lemmas.Bool.{and_parts}
use Rattle.std.proofs.lemmas.Bool.Decides.{nat_tests}
use Rattle.desk_signals.specs.declared.Cell.{Cell}
use Rattle.desk_wedge.specs.Wedge.{WedgeValues, units_of_row}
use Rattle.desk_case.specs.File.{is_descending, units_of_cells}
use Rattle.desk_case.specs.Laws.{DescentIsOfAllPairs}

-- the numbers descend from one that is above the first
abbrev pub descends_from : ℕ → List ℕ → Bool
descends_from before [] = true
descends_from before (u ∷ us) = nat_lt u before && descends_from u us

pub descends_cons : (u : ℕ) (us : List ℕ) → is_descending (u ∷ us) ≡ descends_from u us
descends_cons u [] = refl
descends_cons u (v ∷ us) = rw (descends_cons v us) refl

-- the units of the first cell, before those of the others
pub begun : (w : WedgeValues) (cells : List Cell) (first : Cell) (before : ℕ) → 1 ≤ length cells → first ≡ get_or cells 0 first → before ≡ units_of_row w first.row
    → is_descending (units_of_cells w cells) ≡ descends_from before (units_of_cells w (drop 0 (take (length cells - 1) (drop 1 cells))))
begun w [] first before some is reported = absurd (omega arith)
begun w (c ∷ cs) first before some is reported =
    let long : length (c ∷ cs) - 1 ≡ length cs = omega arith in
    let same : first ≡ c = is in
    rw (long, take_all (length cs) cs (omega arith), reported, same) (descends_cons (units_of_row w c.row) (units_of_cells w cs))

pub record AreBelow (before : ℕ) (us : List ℕ) : Type 0 where
  pub each : (k d : ℕ) → k < length us → get_or us k d < before

below_cons : (before u : ℕ) (us : List ℕ) → u < before → AreBelow u us → AreBelow before (u ∷ us)
below_cons before u us h rest = record { each = below_at }
  where
    below_at : (k d : ℕ) → k < length (u ∷ us) → get_or (u ∷ us) k d < before
    below_at zero d within = h
    below_at (suc k) d within = omega (arith, rest.each k d (omega arith))

all_below : (before : ℕ) (us : List ℕ) → descends_from before us ≡ true → AreBelow before us
all_below before [] e = record { each = λ k d within. absurd (omega arith) }
all_below before (u ∷ us) e =
    let parts = and_parts (nat_lt u before) (descends_from u us) e in
    let test = parts.0 in
    below_cons before u us (grind (arith, nat_tests)) (all_below u us parts.1)

pairs_cons : (u : ℕ) (us : List ℕ) → AreBelow u us → AllPairs (λ a b. b < a) us → AllPairs (λ a b. b < a) (u ∷ us)
pairs_cons u us below rest zero zero d p q = absurd (omega arith)
pairs_cons u us below rest zero (suc j) d p q = below.each j d (omega arith)
pairs_cons u us below rest (suc i) zero d p q = absurd (omega arith)
pairs_cons u us below rest (suc i) (suc j) d p q = rest i j d (omega arith) (omega arith)

no_pairs : AllPairs (λ (a : ℕ) (b : ℕ). b < a) []
no_pairs i j d p q = absurd (omega arith)

pairs_from : (before : ℕ) (us : List ℕ) → descends_from before us ≡ true → AllPairs (λ a b. b < a) us
pairs_from before [] e = no_pairs
pairs_from before (u ∷ us) e =
    let parts = and_parts (nat_lt u before) (descends_from u us) e in
    pairs_cons u us (all_below u us parts.1) (pairs_from u us parts.1)

pairs : (us : List ℕ) → IsTrue (is_descending us) → AllPairs (λ a b. b < a) us
pairs [] e = no_pairs
pairs (u ∷ us) e =
    let reported = sym (descends_cons u us) ∙ e in
    pairs_cons u us (all_below u us reported) (pairs_from u us reported)

tail_pairs : (u : ℕ) (us : List ℕ) → AllPairs (λ a b. b < a) (u ∷ us) → AllPairs (λ a b. b < a) us
tail_pairs u us h i j d p q = h (suc i) (suc j) d (omega arith) (omega arith)

from_pairs : (us : List ℕ) → AllPairs (λ a b. b < a) us → IsTrue (is_descending us)
from_pairs [] h = refl
from_pairs (u ∷ []) h = refl
from_pairs (u ∷ v ∷ us) h =
    let first : v < u = h 0 1 0 (omega arith) (omega arith) in
    let test : nat_lt v u ≡ true = grind (arith, nat_tests) in
    rw test (from_pairs (v ∷ us) (tail_pairs u (v ∷ us) h))

pub law : DescentIsOfAllPairs
law us = (pairs us, from_pairs us)
