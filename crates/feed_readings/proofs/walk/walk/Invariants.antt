use Rattle.std.proofs.Common.{◌≡◌, ◌++◌, drop}
use Rattle.feed_readings.specs.Cuts.{cuts_from}
use Rattle.feed_readings.specs.Pieces.{ends, is_open, pieces_from}
use Rattle.feed_readings.specs.Readings.{open_readings, rows}
use Rattle.feed_readings.proofs.walk.walk.Given as goal

abbrev pub invariant-loop-place : goal.invariant-loop-place
invariant-loop-place g l =
    l.readings.items ++ rows (is_open l.base l.one l.other l.both) l.row (pieces_from l.from (cuts_from l.base l.one l.other l.place (drop l.place l.both)) (ends l.base l.one l.other l.both))
    ≡ open_readings l.base l.one l.other l.both
