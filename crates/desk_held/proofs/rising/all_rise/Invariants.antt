use Rattle.std.proofs.Common.{◌≡◌, ◌≤◌, ◌-◌, true, take, length}
use Rattle.desk_ops.specs.Stamp.{head}
use Rattle.desk_held.specs.Rising.{rise_from, last_from}
use Rattle.desk_held.proofs.rising.all_rise.Given as goal

-- those so far rise, and which stamp is the last
abbrev pub invariant-loop-at : goal.invariant-loop-at
invariant-loop-at g l = record {
  within : l.at ≤ length l.ops.entries;
  up : rise_from head (take l.at l.ops.entries) ≡ true;
  is : l.last ≡ last_from head (take l.at l.ops.entries);
}

abbrev pub decreases-loop-at : goal.decreases-loop-at
decreases-loop-at g l = length l.ops.entries - l.at
