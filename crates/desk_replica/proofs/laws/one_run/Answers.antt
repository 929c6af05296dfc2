use Rattle.desk_replica.proofs.Runs.{one_run}
use Rattle.desk_replica.proofs.laws.one_run.Goals as goal

pub returns : goal.returns
returns c = one_run
