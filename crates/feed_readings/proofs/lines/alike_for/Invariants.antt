use Rattle.std.proofs.Common.{◌≡◌, ◌+◌, ◌≤◌, length}
use Rattle.feed_readings.specs.Lines.{alike_for}
use Rattle.feed_readings.proofs.lines.alike_for.Given as goal

abbrev pub invariant-loop-ones : goal.invariant-loop-ones
invariant-loop-ones l = record {
  counted : l.count + alike_for l.ones l.others ≡ alike_for l.fn.one l.fn.other;
  within : l.count + length l.ones ≤ length l.fn.one;
}

abbrev pub decreases-loop-ones : goal.decreases-loop-ones
decreases-loop-ones l = length l.ones
