use Rattle.desk_codec.proofs.EitherLaw.{feed_or_fault}
use Rattle.desk_codec.proofs.laws.feed_or_fault_holds.Goals as goal

pub returns : goal.returns
returns c = feed_or_fault
