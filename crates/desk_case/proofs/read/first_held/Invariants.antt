use Rattle.std.proofs.Common.{◌≡◌, ◌∷◌, drop}
use Rattle.desk_case.specs.File.{first_held}
use Rattle.desk_case.proofs.read.first_held.Given as goal

abbrev pub invariant-loop-cell : goal.invariant-loop-cell
invariant-loop-cell l = first_held l.grid (l.space ∷ l.fill) ≡ first_held l.grid (drop l.cell-index l.fill)
