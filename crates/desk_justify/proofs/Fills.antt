-- How often each fill is used, one after the other, and as the definition of a filled line has it.
use Rattle.std.proofs.Common.{◌≡◌, ℕ, zero, suc, ◌+◌, ◌-◌, ◌*◌, ◌/◌, ◌<◌, List, [], ◌∷◌, length, get_or, take, refl, ap, arith}
use Rattle.std.specs.Prelude.{ℤ, pos, unsigned_abs}
use Rattle.desk_justify.specs.Filled.{fill_counts, room, taken, OneFilling}

pub counts_number : (left : ℕ) (widths : List ℤ) → length (fill_counts left widths) ≡ length widths
counts_number left [] = refl
counts_number left (width ∷ widths) = ap suc (counts_number (left - left / unsigned_abs width * unsigned_abs width) widths)

-- what is left after one fill, and then after others
left_after : (left one more : ℕ) → left - one - more ≡ left - (one + more)
left_after left one more = omega arith

-- the fill at a place is used as often as it fits in what is left
counts_at : (left : ℕ) (widths : List ℤ) (j : ℕ) → j < length widths →
    get_or (fill_counts left widths) j 0
    ≡ (left - taken (take j (fill_counts left widths)) (take j widths)) / unsigned_abs (get_or widths j (pos 0))
counts_at left [] j below = absurd (omega arith)
counts_at left (width ∷ widths) zero below = ap (λ (n : ℕ). n / unsigned_abs width) (let e : left ≡ left - 0 = omega arith in e)
counts_at left (width ∷ widths) (suc j) below =
    let one = left / unsigned_abs width * unsigned_abs width in
    let more = counts_at (left - one) widths j (omega arith) in
    rw (left_after left one (taken (take j (fill_counts (left - one) widths)) (take j widths))) at more

-- what the fills after the first are, where the counts are those of the definition
abbrev AtEach : ℕ → List ℤ → List ℕ → Type 0
AtEach left widths counts = (j : ℕ) → j < length widths →
    get_or counts j 0 ≡ (left - taken (take j counts) (take j widths)) / unsigned_abs (get_or widths j (pos 0))

counts_only : (left : ℕ) (widths : List ℤ) (counts : List ℕ) → length counts ≡ length widths → AtEach left widths counts →
    fill_counts left widths ≡ counts
counts_only left [] [] number each = refl
counts_only left [] (count ∷ counts) number each = absurd (omega arith)
counts_only left (width ∷ widths) [] number each = absurd (omega arith)
counts_only left (width ∷ widths) (count ∷ counts) number each =
    let none : left - 0 ≡ left = omega arith in
    let first : count ≡ left / unsigned_abs width = rw none at (each 0 (omega arith)) in
    let others : AtEach (left - count * unsigned_abs width) widths counts =
    (λ j below. rw (left_after left (count * unsigned_abs width) (taken (take j counts) (take j widths))) (each (suc j) (omega arith))) in
    let rest = counts_only (left - count * unsigned_abs width) widths counts (omega arith) others in
    rw (← first, rest) refl

pub one_filling : OneFilling
one_filling rest widths = (
  record { number = counts_number (room rest) widths; each = counts_at (room rest) widths },
  λ counts are. counts_only (room rest) widths counts are.number are.each,
)
