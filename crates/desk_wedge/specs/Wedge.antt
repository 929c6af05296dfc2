-- What a wedge is, as its file gives it, and what holds of every wedge.
use Rattle.std.specs.Prelude.{ℕ, ◌-◌, ◌≤◌, ◌≡◌, List, All, length, slice_index}
use Rattle.std.specs.List.Sorted.{IsNonDecreasing}
use Rattle.desk_units.specs.declared.Pica.{Pica}

-- the number, the set in quarter points, the pica, and the units of rows 1 to 15
pub record WedgeValues : Type 0 where
  pub number : ℕ
  pub set_q : ℕ
  pub pica : Pica
  pub units : List ℕ

-- the units of a row
abbrev pub units_of_row : WedgeValues → ℕ → ℕ
units_of_row w row = slice_index w.units (row - 1)

-- a number of units
abbrev pub IsUnits : ℕ → Type 0
IsUnits n = (1 ≤ n) × (n ≤ 24)

-- 15 rows with units each
pub record AreUnits (units : List ℕ) : Type 0 where
  pub rows : length units ≡ 15
  pub each : All IsUnits units

-- what holds of every wedge
pub record IsWedge (w : WedgeValues) : Type 0 where
  pub number : (1 ≤ w.number) × (w.number ≤ 65535)
  pub set_q : (20 ≤ w.set_q) × (w.set_q ≤ 96)
  pub units : AreUnits w.units
  pub rising : IsNonDecreasing w.units
