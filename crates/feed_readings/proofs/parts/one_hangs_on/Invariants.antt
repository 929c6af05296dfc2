use Rattle.std.proofs.Common.{◌≡◌, false, take}
use Rattle.std.specs.List.{list_any}
use Rattle.feed_readings.specs.Parts.{hangs_on}
use Rattle.feed_readings.proofs.parts.one_hangs_on.Given as goal

-- none so far hangs on one of the others
abbrev pub invariant-loop-op : goal.invariant-loop-op
invariant-loop-op g l = list_any (hangs_on l.others) (take l.op-index l.ops) ≡ false
