use Rattle.std.proofs.Common.{◌≡◌, ◌<◌, ◌≤◌, ◌-◌, true, false, length, get_or}
use Rattle.desk_ops.specs.declared.op.Op.{Op}
use Rattle.desk_ops.specs.Op.{stamp_of}
use Rattle.desk_ops.specs.Stamp.{before}
use Rattle.desk_codec.proofs.runs.seek.Given as goal

-- what bears a smaller stamp
abbrev pub invariant-loop-step : goal.invariant-loop-step
invariant-loop-step l =
    record {
      from : l.fn.at ≤ l.low;
      low : l.low < length l.ops;
      step : 0 < l.step;
      smaller : (d : Op) → before (stamp_of (get_or l.ops l.low d)) l.stamp ≡ true;
    }

abbrev pub decreases-loop-step : goal.decreases-loop-step
decreases-loop-step l = length l.ops - l.low

-- and what does not
abbrev pub invariant-loop-high : goal.invariant-loop-high
invariant-loop-high l =
    record {
      from : l.fn.at ≤ l.low;
      low : l.low < l.high;
      high : l.high ≤ length l.ops;
      smaller : (d : Op) → before (stamp_of (get_or l.ops l.low d)) l.stamp ≡ true;
      found : (d : Op) → l.high < length l.ops → before (stamp_of (get_or l.ops l.high d)) l.stamp ≡ false;
    }

abbrev pub decreases-loop-high : goal.decreases-loop-high
decreases-loop-high l = l.high - l.low
