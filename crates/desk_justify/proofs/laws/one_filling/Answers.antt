use Rattle.desk_justify.proofs.Fills.{one_filling}
use Rattle.desk_justify.proofs.laws.one_filling.Goals as goal

pub returns : goal.returns
returns c = one_filling
