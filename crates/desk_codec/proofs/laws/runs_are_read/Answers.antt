use Rattle.desk_codec.proofs.GroupLaws.{runs_reported}
use Rattle.desk_codec.proofs.laws.runs_are_read.Goals as goal

pub returns : goal.returns
returns c = runs_reported
