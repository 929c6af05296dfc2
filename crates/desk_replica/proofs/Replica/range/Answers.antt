use Rattle.std.proofs.Common.{rules}
use Rattle.desk_replica.proofs.Replica.range.Goals as goal

pub returns-clause-items : goal.returns-clause-items
returns-clause-items g c = search rules steps 300000
