use Rattle.std.proofs.Common.{◌≡◌, ◌+◌, ◌≤◌, take, length}
use Rattle.desk_ops.specs.OpSet.{no_ops, with_all}
use Rattle.desk_walk.proofs.room.Room.from_each.Given as goal

abbrev pub invariant-loop-i : goal.invariant-loop-i
invariant-loop-i g l = (l.room.ops ≡ with_all no_ops (take l.i l.ops)) × (length l.ops ≤ l.room.spare + l.i)
