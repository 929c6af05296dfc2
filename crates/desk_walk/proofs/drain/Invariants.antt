use Rattle.std.proofs.Common.{◌+◌, ◌-◌, ◌≤◌, length}
use Rattle.desk_ops.specs.OpSet.{OpSet, has_op, size, AllLawful}
use Rattle.desk_walk.specs.Following.{IsDraining}
use Rattle.desk_walk.proofs.drain.Given as goal

-- whatever set they followed as the drain began they follow still
abbrev pub invariant-loop-place : goal.invariant-loop-place
invariant-loop-place g l = record {
  order : l.at ≤ l.last;
  within : l.last ≤ length (g.Q.Sequence.entries l.sequence);
  follows : (h : OpSet) → AllLawful h → IsDraining h (has_op l.initial.room.ops) (g.Q.Sequence.entries l.initial.sequence) l.from l.from → IsDraining h (has_op l.room.ops) (g.Q.Sequence.entries l.sequence) l.at l.last;
  fewer : size l.room.ops ≤ size l.initial.room.ops;
  free : g.Q.Sequence.free l.initial.sequence + size l.room.ops ≤ g.Q.Sequence.free l.sequence + size l.initial.room.ops;
  spare : l.initial.room.spare ≤ l.room.spare;
}

-- what waits counts twice, since an insert goes over into the sequence
abbrev pub decreases-loop-place : goal.decreases-loop-place
decreases-loop-place g l = size l.room.ops + size l.room.ops + length (g.Q.Sequence.entries l.sequence) - l.at
