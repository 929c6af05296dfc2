use Rattle.std.proofs.Common.{◌≡◌, ℕ, ◌≤◌, ◌<◌, ◌+◌, ◌-◌, true, length, get_or}
use Rattle.std.specs.Ordering.{is_lt}
use Rattle.desk_ops.specs.declared.op.Op.{Op}
use Rattle.desk_walk.specs.Turn.{turn_cmp}
use Rattle.desk_walk.proofs.turn.is_in_turn.Given as goal

abbrev pub invariant-loop-i : goal.invariant-loop-i
invariant-loop-i l = (1 ≤ l.i) × ((k : ℕ) (d : Op) → k + 1 < l.i → k + 1 < length l.ops → is_lt (turn_cmp (get_or l.ops k d) (get_or l.ops (k + 1) d)) ≡ true)

abbrev pub decreases-loop-i : goal.decreases-loop-i
decreases-loop-i l = length l.ops - l.i
