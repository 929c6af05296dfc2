use Rattle.std.proofs.Common.{◌≡◌, ◌≤◌, length, take}
use Rattle.desk_ops.specs.OpSet.{no_ops, with_all}
use Rattle.desk_held.proofs.join.add_part.Given as goal

-- the stretch so far was added, and the first of the list
abbrev pub invariant-loop-at : goal.invariant-loop-at
invariant-loop-at g l = (l.count ≤ length l.ops) × (with_all no_ops l.slots.items ≡ with_all (with_all (with_all no_ops l.initial.slots.items) (take l.at l.part)) (take l.count l.ops))
