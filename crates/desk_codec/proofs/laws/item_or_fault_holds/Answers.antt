use Rattle.desk_codec.proofs.EitherLaw.{item_or_fault}
use Rattle.desk_codec.proofs.laws.item_or_fault_holds.Goals as goal

pub returns : goal.returns
returns c = item_or_fault
