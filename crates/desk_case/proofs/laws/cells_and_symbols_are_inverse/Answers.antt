use Rattle.desk_case.proofs.Grids.{inverse}
use Rattle.desk_case.proofs.laws.cells_and_symbols_are_inverse.Goals as goal

pub returns : goal.returns
returns c = inverse
