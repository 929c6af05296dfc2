use Rattle.desk_case.proofs.Cells.{names}
use Rattle.desk_case.proofs.laws.names_are_one_to_one.Goals as goal

pub returns : goal.returns
returns c = names
