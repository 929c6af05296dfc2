use Rattle.std.proofs.Common.{◌≡◌, ◌++◌, drop}
use Rattle.feed_edit.specs.Forks.{fresh_forks}
use Rattle.feed_edit.proofs.forks.fresh_forks.Given as goal

abbrev pub invariant-loop-fault : goal.invariant-loop-fault
invariant-loop-fault g l = l.stamps.items ++ fresh_forks l.known (drop l.fault-index l.faults) ≡ fresh_forks l.known l.faults
