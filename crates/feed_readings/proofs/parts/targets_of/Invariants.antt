use Rattle.std.proofs.Common.{take}
use Rattle.feed_readings.specs.Parts.{AreTargets}
use Rattle.feed_readings.proofs.parts.targets_of.Given as goal

abbrev pub invariant-loop-op : goal.invariant-loop-op
invariant-loop-op g l = AreTargets (take l.op-index l.ops) l.targets
