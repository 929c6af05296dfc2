use Rattle.std.proofs.Common.{◌≡◌, ◌+◌, ◌≤◌, drop}
use Rattle.feed_history.specs.Lines.{count_of}
use Rattle.feed_history.proofs.lines.count_of.Given as goal

abbrev pub invariant-loop-fault : goal.invariant-loop-fault
invariant-loop-fault l = record {
  within : l.count ≤ l.fault-index;
  so_far : l.count + count_of l.kind (drop l.fault-index l.faults) ≡ count_of l.kind l.faults;
}
