use Rattle.std.proofs.Common.{rules}
use Rattle.desk_replica.proofs.Replica.len.Goals as goal

pub returns-clause-value : goal.returns-clause-value
returns-clause-value g c = search rules steps 300000
