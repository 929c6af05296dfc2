use Rattle.desk_replica.proofs.Convergence.{convergence}
use Rattle.desk_replica.proofs.laws.convergence.Goals as goal

pub returns : goal.returns
returns c = convergence
