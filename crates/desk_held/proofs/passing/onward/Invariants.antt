use Rattle.std.proofs.Common.{◌≡◌, ◌+◌, ◌-◌, ◌<◌, length, get_or, false}
use Rattle.std.specs.Ordering.{is_lt}
use Rattle.desk_ops.specs.Order.{op_cmp}
use Rattle.desk_held.specs.Passing.{IsPart, IsPassed}
use Rattle.desk_held.proofs.passing.onward.Given as goal

-- a stretch, and the place in it of the first that does not come before the operation
abbrev pub invariant-loop-at : goal.invariant-loop-at
invariant-loop-at g l = record {
  part : IsPart l.ops.entries l.start l.part l.at;
  passed : IsPassed l.ops.entries (l.start + l.at) l.op;
  stops : l.at < length l.part → is_lt (op_cmp (get_or l.part l.at l.op) l.op) ≡ false;
}

abbrev pub decreases-loop-at : goal.decreases-loop-at
decreases-loop-at g l = length l.ops.entries - (l.start + length l.part)
