use Rattle.std.proofs.Common.{rules}
use Rattle.desk_seq.proofs.flat.FlatSequence.empty.Goals as goal

pub returns : goal.returns
returns g c = search rules steps 300000
