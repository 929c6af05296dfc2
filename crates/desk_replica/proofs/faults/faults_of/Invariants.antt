use Rattle.desk_replica.specs.Ways.{AreReported}
use Rattle.desk_replica.proofs.faults.faults_of.Given as goal

-- what the operations so far give
abbrev pub invariant-loop-place : goal.invariant-loop-place
invariant-loop-place g l = AreReported l.ops.items l.place l.hanging.items l.faults.items
