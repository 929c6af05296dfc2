use Rattle.std.proofs.Common.{◌≡◌, length}
use Rattle.feed_readings.specs.Pieces.{reads_same}
use Rattle.feed_readings.proofs.walk.reads_same.Given as goal

abbrev pub invariant-loop-ones : goal.invariant-loop-ones
invariant-loop-ones l = reads_same l.ones l.others ≡ reads_same l.fn.one l.fn.other

abbrev pub decreases-loop-ones : goal.decreases-loop-ones
decreases-loop-ones l = length l.ones
