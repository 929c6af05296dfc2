use Rattle.std.proofs.Common.{◌≡◌, ◌≤◌, ◌-◌, take, drop}
use Rattle.desk_held.proofs.Held.range.Given as goal

-- what was copied
abbrev pub invariant-loop-at : goal.invariant-loop-at
invariant-loop-at g l = record {
  begun : l.from ≤ l.at;
  within : l.at ≤ l.until;
  copied : l.list.items ≡ take (l.at - l.from) (drop l.from l.self-inside.ops.entries);
}

abbrev pub decreases-loop-at : goal.decreases-loop-at
decreases-loop-at g l = l.until - l.at
