use Rattle.std.proofs.Common.{◌≡◌, ℕ, ◌≤◌, ◌<◌, ◌+◌, ◌-◌, length, get_or}
use Rattle.std.specs.declared.cmp.Ordering.TheVariants.{Less}
use Rattle.desk_ops.specs.declared.op.Op.{Op}
use Rattle.desk_ops.specs.Order.{op_cmp}
use Rattle.desk_held.proofs.search.are_rising.Given as goal

-- each pair up to the i-th rises
abbrev pub invariant-loop-i : goal.invariant-loop-i
invariant-loop-i l = (1 ≤ l.i) × ((k : ℕ) (d : Op) → k + 1 < l.i → k + 1 < length l.slots → op_cmp (get_or l.slots k d) (get_or l.slots (k + 1) d) ≡ Less)

abbrev pub decreases-loop-i : goal.decreases-loop-i
decreases-loop-i l = length l.slots - l.i
