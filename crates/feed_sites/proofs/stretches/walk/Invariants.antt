use Rattle.std.proofs.Common.{◌+◌, ◌-◌, length}
use Rattle.feed_sites.specs.Stretches.{IsReached}
use Rattle.feed_sites.specs.Walking.{HasReported}
use Rattle.feed_sites.proofs.stretches.walk.Given as goal

abbrev pub invariant-loop-point : goal.invariant-loop-point
invariant-loop-point g l = record {
  within : IsReached l.one l.other l.point l.point;
  reported : HasReported l.one l.other l.stretches.items l.front l.point (l.point.one + 1);
}

abbrev pub decreases-loop-point : goal.decreases-loop-point
decreases-loop-point g l = (length l.one + length l.other) - (l.point.one + l.point.other)
