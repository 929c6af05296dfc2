use Rattle.std.proofs.Common.{◌≡◌, ◌-◌, ℕ, ◌<◌, ◌≤◌, true}
use Rattle.desk_ops.specs.Stamp.{before}
use Rattle.desk_ops.specs.Op.{stamp_of}
use Rattle.desk_ops.specs.OpSet.{in_order}
use Rattle.desk_walk.specs.Tree.{op_at}
use Rattle.desk_walk.proofs.tree.find.Given as goal

abbrev pub invariant-loop-low : goal.invariant-loop-low
invariant-loop-low g l = record {
  order : l.low ≤ l.high;
  within : l.high ≤ l.end;
  below : (k : ℕ) → k < l.low → before (stamp_of (op_at (in_order l.held.ops) k)) l.stamp ≡ true;
  above : (k : ℕ) → l.high ≤ k → k < l.end → before l.stamp (stamp_of (op_at (in_order l.held.ops) k)) ≡ true;
}

abbrev pub decreases-loop-low : goal.decreases-loop-low
decreases-loop-low g l = l.high - l.low
