use Rattle.std.proofs.Common.{◌≡◌, take}
use Rattle.feed_readings.specs.Merged.{shown_entries}
use Rattle.feed_readings.proofs.merged.shown_in.Given as goal

abbrev pub invariant-loop-at : goal.invariant-loop-at
invariant-loop-at g l = l.shown.items ≡ shown_entries (take l.at (g.Q.Sequence.entries l.sequence))
