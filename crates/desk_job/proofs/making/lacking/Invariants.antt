use Rattle.std.proofs.Common.{◌≡◌, ◌++◌, drop}
use Rattle.desk_job.specs.Job.{lacking}
use Rattle.desk_job.proofs.making.lacking.Given as goal

abbrev pub invariant-loop-i : goal.invariant-loop-i
invariant-loop-i g l = l.faults.items ++ lacking l.case l.i (drop l.i l.copy) ≡ lacking l.case 0 l.copy
