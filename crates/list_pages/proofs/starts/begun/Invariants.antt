use Rattle.std.proofs.Common.{◌≤◌, ◌-◌, length}
use Rattle.list_pages.proofs.starts.begun.Given as goal

abbrev pub invariant-loop-probe : goal.invariant-loop-probe
invariant-loop-probe l = record {
  low : l.probe.low ≤ l.probe.high;
  high : l.probe.high ≤ length l.starts;
}

abbrev pub decreases-loop-probe : goal.decreases-loop-probe
decreases-loop-probe l = l.probe.high - l.probe.low
