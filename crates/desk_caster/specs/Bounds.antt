-- How wide lines can get, so that their totals fit 64 bits.
use Rattle.std.specs.Prelude.{◌≡◌, ℕ, ◌*◌, ◌^◌, ℤ, pos, ◌-ℤ◌, ◌≤ℤ◌, List, length, Option, Some, None}
use Rattle.desk_caster.specs.declared.CastMatrix.{CastMatrix}
use Rattle.desk_caster.specs.Caster.{total_width, Begun, State}

-- no matrix is wider, or narrower than nothing by more
abbrev pub widest : ℕ
widest = 2 ^ 21

-- a width of at most so many matrices
pub record IsWithin (width : ℤ) (matrices : ℕ) : Type 0 where
  pub low : (pos 0 -ℤ pos (matrices * widest)) ≤ℤ width
  pub high : width ≤ℤ pos (matrices * widest)

-- the total of matrices
pub record IsTotal (total : ℤ) (matrices : List CastMatrix) : Type 0 where
  pub sum : total ≡ total_width matrices
  pub within : IsWithin total (length matrices)

-- how many matrices are on the line in progress
abbrev pub in_line : Option Begun → ℕ
in_line None = 0
in_line (Some line) = length line.matrices

abbrev pub in_progress : State → ℕ
in_progress state = in_line state.line
