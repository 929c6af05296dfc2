use Rattle.std.proofs.Common.{◌≡◌, ℕ, ◌<◌, ◌+◌, true, length, get_or}
use Rattle.desk_ops.specs.declared.op.Op.{Op}
use Rattle.desk_ops.specs.Op.{stamp_of}
use Rattle.desk_ops.specs.Stamp.{before}
use Rattle.desk_replica.proofs.apart.rise_by_stamp.Given as goal

-- each pair so far rises
abbrev pub invariant-loop-at : goal.invariant-loop-at
invariant-loop-at l = (k : ℕ) (d : Op) → k + 1 < l.at → k + 1 < length l.ops → before (stamp_of (get_or l.ops k d)) (stamp_of (get_or l.ops (k + 1) d)) ≡ true
