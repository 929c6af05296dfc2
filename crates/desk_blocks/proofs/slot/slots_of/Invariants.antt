use Rattle.std.proofs.Common.{◌≡◌, take}
use Rattle.desk_blocks.proofs.slot.slots_of.Given as goal

-- the entries so far were written
abbrev pub invariant-loop-entry : goal.invariant-loop-entry
invariant-loop-entry g l = l.slots.items ≡ take l.entry-index l.list
