use Rattle.std.proofs.Common.{◌<◌, ◌≤◌, ◌-◌, length}
use Rattle.desk_held.specs.Passing.{IsPassed}
use Rattle.desk_held.proofs.passing.skip.Given as goal

-- those so far come before the operation
abbrev pub invariant-loop-at : goal.invariant-loop-at
invariant-loop-at l = record {
  order : l.from ≤ l.at;
  within : l.at ≤ length l.part;
  passed : l.from < l.at → IsPassed l.part l.at l.op;
}

abbrev pub decreases-loop-at : goal.decreases-loop-at
decreases-loop-at l = length l.part - l.at
