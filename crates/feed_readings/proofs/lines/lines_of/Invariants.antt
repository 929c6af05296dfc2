use Rattle.std.proofs.Common.{◌≡◌, ◌++◌, drop}
use Rattle.feed_readings.specs.Lines.{readings_lines}
use Rattle.feed_readings.proofs.lines.lines_of.Given as goal

abbrev pub invariant-loop-reading : goal.invariant-loop-reading
invariant-loop-reading g l =
    l.out.items ++ readings_lines l.copies.base.items l.copies.one.items l.copies.other.items l.copies.both.items (drop l.reading-index l.readings)
    ≡ readings_lines l.copies.base.items l.copies.one.items l.copies.other.items l.copies.both.items l.readings
