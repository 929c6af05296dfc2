use Rattle.desk_registers.proofs.Greatest.{one_greatest}
use Rattle.desk_registers.proofs.laws.there_is_one_greatest.Goals as goal

pub returns : goal.returns
returns c = one_greatest
