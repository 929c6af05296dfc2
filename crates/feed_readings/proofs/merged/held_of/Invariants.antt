use Rattle.std.proofs.Common.{◌≡◌, take}
use Rattle.feed_readings.specs.Merged.{common_ops}
use Rattle.feed_readings.proofs.merged.held_of.Given as goal

abbrev pub invariant-loop-op : goal.invariant-loop-op
invariant-loop-op g l = l.held.items ≡ common_ops l.replica.ops (take l.op-index l.ops)
