use Rattle.std.proofs.Common.{◌≡◌, ◌≤◌, ◌-◌, length, take}
use Rattle.desk_ops.specs.OpSet.{no_ops, with_all}
use Rattle.desk_held.proofs.Held.beside.Given as goal

-- what is held was added up to a place, and the first of the list
abbrev pub invariant-loop-at : goal.invariant-loop-at
invariant-loop-at g l = record {
  within : l.at ≤ length l.self-inside.ops.entries;
  place : l.added ≤ length l.ops;
  whole : with_all no_ops l.slots.items ≡ with_all (with_all no_ops (take l.at l.self-inside.ops.entries)) (take l.added l.ops);
}

abbrev pub decreases-loop-at : goal.decreases-loop-at
decreases-loop-at g l = length l.self-inside.ops.entries - l.at
