-- Widths in atoms, and how far the justifying spaces of a line are driven apart.
use Rattle.std.specs.Prelude.{◌≡◌, ℕ, ◌*◌, ◌/◌, ◌≤◌, ℤ, pos, negsuc, ◌-ℤ◌, ◌*ℤ◌, ◌≤ℤ◌, ◌<ℤ◌}
use Rattle.desk_units.specs.declared.Pica.{Pica}
use Rattle.desk_units.specs.declared.Pica.TheVariants.{Sixth, American}

-- the atoms of a step of 0.0005 inch
abbrev pub step : ℕ
step = 648

-- the atoms of a unit for each quarter point of the set: 250 for the pica of 1/6 inch, 249 for that of 0.1660 inch
abbrev pub unit_atoms : Pica → ℕ
unit_atoms Sixth = 250
unit_atoms American = 249

-- the width of so many units, at a set in quarter points
abbrev pub units_width : (units set : ℕ) → Pica → ℕ
units_width units set pica = units * set * unit_atoms pica

-- the atoms of a point
abbrev pub point_atoms : Pica → ℕ
point_atoms pica = 72 * unit_atoms pica

-- a measure in points
abbrev pub measure_width : (points : ℕ) → Pica → ℕ
measure_width points pica = points * point_atoms pica

-- Driven so many steps apart, the spaces leave less than a step for each space of the rest.
pub record IsSteps (rest : ℤ) (spaces : ℕ) (steps : ℤ) : Type 0 where
  pub not_over : pos 0 ≤ℤ (rest -ℤ pos (step * spaces) *ℤ steps)
  pub short : (rest -ℤ pos (step * spaces) *ℤ steps) <ℤ pos (step * spaces)

-- division that rounds down, also below 0
abbrev pub floor_div : ℤ → ℕ → ℤ
floor_div (pos a) n = pos (a / n)
floor_div (negsuc a) n = negsuc (a / n)

-- the one number of steps for each space
abbrev pub steps_of : (rest : ℤ) (spaces : ℕ) → ℤ
steps_of rest spaces = floor_div rest (step * spaces)

-- There is one number of steps that leaves less than a step for each space.
abbrev pub OneNumberOfSteps : Type 0
OneNumberOfSteps = (rest : ℤ) (spaces : ℕ) → 1 ≤ spaces →
    IsSteps rest spaces (steps_of rest spaces)
    × ((steps : ℤ) → IsSteps rest spaces steps → steps_of rest spaces ≡ steps)
