use Rattle.std.proofs.Common.{◌≡◌, drop}
use Rattle.desk_case.specs.File.{is_descending, units_of_cells}
use Rattle.desk_case.proofs.Descents.{descends_from}
use Rattle.desk_case.proofs.descend.Given as goal

abbrev pub invariant-loop-cell : goal.invariant-loop-cell
invariant-loop-cell l = is_descending (units_of_cells l.wedge l.cells) ≡ descends_from l.before (units_of_cells l.wedge (drop l.cell-index l.rest))
