use Rattle.std.proofs.Common.{take}
use Rattle.desk_blocks.specs.Tally.{IsTally}
use Rattle.desk_blocks.proofs.tally.TallySummarySlot.of.Given as goal

abbrev pub invariant-loop-slot : goal.invariant-loop-slot
invariant-loop-slot l = IsTally l.tally (take l.slot-index l.page)
