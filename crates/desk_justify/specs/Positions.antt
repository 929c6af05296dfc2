-- The wedge sum and the positions that drive the spaces of a line apart.
use Rattle.std.specs.Prelude.{ℕ, ℤ}
use Rattle.desk_units.specs.Widths.{steps_of, IsSteps}
use Rattle.desk_units.specs.WedgeSum.{driven, IsPair}

-- the wedge sum that drives the spaces of a line as far apart as the rest allows
abbrev pub sum_of : (rest : ℤ) (spaces : ℕ) → ℤ
sum_of rest spaces = driven (steps_of rest spaces)

-- The positions justify a line: at their sum the spaces leave less than a step for each space of the rest.
abbrev pub Justifies : (rest : ℤ) (spaces coarse fine : ℕ) → Type 0
Justifies rest spaces coarse fine = (steps : ℤ) × (IsSteps rest spaces steps × IsPair (driven steps) coarse fine)
