use Rattle.std.proofs.Common.{◌≡◌, ◌++◌, take}
use Rattle.desk_held.proofs.slots.append.Given as goal

-- the operations of the slots so far stand at the end
abbrev pub invariant-loop-slot : goal.invariant-loop-slot
invariant-loop-slot g l = l.list.items ≡ l.initial.list.items ++ take l.slot-index l.slots
