use Rattle.desk_registers.proofs.Greatest.{greatest_is_kept}
use Rattle.desk_registers.proofs.laws.greatest_is_kept.Goals as goal

pub returns : goal.returns
returns c = greatest_is_kept
