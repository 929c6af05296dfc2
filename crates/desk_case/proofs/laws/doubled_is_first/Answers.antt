use Rattle.desk_case.proofs.Grids.{doubled}
use Rattle.desk_case.proofs.laws.doubled_is_first.Goals as goal

pub returns : goal.returns
returns c = doubled
