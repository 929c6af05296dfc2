-- What the first descent of some units is, said of the rows.
use Rattle.std.specs.Prelude.{ℕ, ◌-◌, ◌≤◌, ◌<◌, List, length, slice_index, MatchOption}
use Rattle.std.specs.List.Sorted.{IsNonDecreasing}
use Rattle.desk_wedge.specs.File.{first_descent}

-- a row has fewer units than the row before
pub record FallsAt (units : List ℕ) (row : ℕ) : Type 0 where
  pub later : 2 ≤ row
  pub within : row ≤ length units
  pub fewer : slice_index units (row - 1) < slice_index units (row - 2)

-- the least row that has
pub record IsFirstFall (units : List ℕ) (row : ℕ) : Type 0 where
  pub falls : FallsAt units row
  pub least : (other : ℕ) → FallsAt units other → row ≤ other

-- the first descent is the least row that falls, and there is none exactly where the units never fall
abbrev pub DescentIsFirstFall : Type 0
DescentIsFirstFall = (units : List ℕ) → MatchOption (first_descent units) (IsNonDecreasing units) (IsFirstFall units)
