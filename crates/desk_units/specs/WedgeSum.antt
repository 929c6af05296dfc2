-- Wedge sums: the positions of the two justification wedges as one number.
use Rattle.std.specs.Prelude.{◌≡◌, ℕ, ◌+◌, ◌-◌, ◌*◌, ◌/◌, ◌%◌, ◌≤◌, ◌⊎◌, ◌↔◌, ℤ, pos, negsuc, ◌+ℤ◌, ◌-ℤ◌, ◌*ℤ◌, ◌<ℤ◌}
use Rattle.std.specs.Prelude.{if◌then◌else◌, nat_le, ◌&&◌, Option, Some, None, IfSome, IsNone}
use Rattle.desk_units.specs.Widths.{step}

-- the sum of a position of the coarse wedge and one of the fine wedge: one position of the coarse one is as far as 15
-- of the fine one
abbrev pub sum_at : (coarse fine : ℕ) → ℕ
sum_at coarse fine = 15 * coarse + fine

-- the sum at which a justified matrix has the width of its units: 53
abbrev pub neutral : ℕ
neutral = sum_at 3 8

-- the least sum, with both wedges at 1: 16
abbrev pub least : ℕ
least = sum_at 1 1

-- the greatest sum, with both wedges at 15: 240
abbrev pub greatest : ℕ
greatest = sum_at 15 15

-- The number is a wedge sum.
abbrev pub IsWedgeSum : ℕ → Type 0
IsWedgeSum sum = (least ≤ sum) × (sum ≤ greatest)

-- the position of the coarse wedge at a sum
abbrev pub coarse_of : (sum : ℕ) → ℕ
coarse_of sum = (sum - 1) / 15

-- the position of the fine wedge at a sum
abbrev pub fine_of : (sum : ℕ) → ℕ
fine_of sum = (sum - 1) % 15 + 1

-- how much wider than its units a justified matrix is at a wedge sum
abbrev pub widening : (sum : ℕ) → ℤ
widening sum = pos step *ℤ (pos sum -ℤ pos neutral)

-- the number so many steps above neutral, or below it; a wedge sum where the wedges reach so far
abbrev pub driven : (steps : ℤ) → ℤ
driven steps = pos neutral +ℤ steps

-- The positions of the coarse and the fine wedge, each from 1 to 15, have this sum.
pub record IsPair (sum : ℤ) (coarse fine : ℕ) : Type 0 where
  pub coarse_low : 1 ≤ coarse
  pub coarse_high : coarse ≤ 15
  pub fine_low : 1 ≤ fine
  pub fine_high : fine ≤ 15
  pub has_sum : sum ≡ pos (sum_at coarse fine)

-- The number is the sum of no positions.
abbrev pub IsOutside : (sum : ℤ) → Type 0
IsOutside sum = (sum <ℤ pos least) ⊎ (pos greatest <ℤ sum)

-- the positions with this sum, none for a number that is no wedge sum
abbrev pub pair_of : (sum : ℤ) → Option (ℕ × ℕ)
pair_of (pos sum) = if nat_le least sum && nat_le sum greatest then Some (coarse_of sum, fine_of sum) else None
pair_of (negsuc _) = None

-- Each wedge sum is that of one pair of positions, and no other number is that of any.
abbrev pub OnePairForEachSum : Type 0
OnePairForEachSum = (sum : ℤ) →
    IfSome (pair_of sum) (λ p. IsPair sum p.0 p.1)
    × ((coarse fine : ℕ) → IsPair sum coarse fine → pair_of sum ≡ Some (coarse, fine))
    × (IsNone (pair_of sum) ↔ IsOutside sum)
