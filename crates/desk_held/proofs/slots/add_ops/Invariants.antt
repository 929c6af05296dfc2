use Rattle.std.proofs.Common.{◌≡◌, ◌++◌, take}
use Rattle.desk_held.proofs.slots.add_ops.Given as goal

-- the operations so far stand at the end
abbrev pub invariant-loop-op : goal.invariant-loop-op
invariant-loop-op g l = l.slots.items ≡ l.initial.slots.items ++ take l.op-index l.ops
