use Rattle.std.proofs.Common.{◌+◌, ◌-◌, ◌≤◌, length, take}
use Rattle.feed_readings.specs.Sides.{IsPass}
use Rattle.feed_readings.proofs.sides.passed.Given as goal

-- both lists were passed up to a place
abbrev pub invariant-loop-at : goal.invariant-loop-at
invariant-loop-at g l = record {
  within : l.at ≤ length l.ones;
  inside : l.place ≤ length l.ops;
  passed : IsPass (take l.at l.ones) (take l.place l.ops) l.pass;
}

abbrev pub decreases-loop-at : goal.decreases-loop-at
decreases-loop-at g l = (length l.ones - l.at) + (length l.ops - l.place)

abbrev pub invariant-loop-at-2 : goal.invariant-loop-at-2
invariant-loop-at-2 g l = record {
  within : l.at ≤ length l.ones;
  inside : l.place ≤ length l.ops;
  passed : IsPass (take l.at l.ones) (take l.place l.ops) l.pass;
}

abbrev pub decreases-loop-at-2 : goal.decreases-loop-at-2
decreases-loop-at-2 g l = length l.ones - l.at

-- the one list was passed whole
abbrev pub invariant-loop-place : goal.invariant-loop-place
invariant-loop-place g l = record {
  inside : l.place ≤ length l.ops;
  passed : IsPass l.ones (take l.place l.ops) l.pass;
}

abbrev pub decreases-loop-place : goal.decreases-loop-place
decreases-loop-place g l = length l.ops - l.place
