use Rattle.std.proofs.Common.{◌≡◌, ◌≤◌, ◌-◌, ◌++◌, length, take}
use Rattle.desk_held.proofs.join.add_before.Given as goal

-- those so far were added
abbrev pub invariant-loop-count : goal.invariant-loop-count
invariant-loop-count g l = (l.count ≤ length l.ops) × (l.slots.items ≡ l.initial.slots.items ++ take l.count l.ops)

abbrev pub decreases-loop-count : goal.decreases-loop-count
decreases-loop-count g l = length l.ops - l.count
