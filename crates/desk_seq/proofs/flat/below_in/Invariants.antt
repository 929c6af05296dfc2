use Rattle.std.proofs.Common.{◌≡◌, ℕ, ◌≤◌, ◌<◌, false, length, get_or, ◌-◌}
use Rattle.desk_ops.specs.Stamp.{head, before}
use Rattle.desk_seq.specs.Entries.{stamps_of}
use Rattle.desk_seq.proofs.flat.below_in.Given as goal

abbrev pub invariant-loop-at : goal.invariant-loop-at
invariant-loop-at l =
    let es = l.items in
    (l.from ≤ l.at) × (l.at ≤ length es) × ((k : ℕ) → l.from ≤ k → k < l.at → before (get_or (stamps_of es) k head) l.stamp ≡ false)

abbrev pub decreases-loop-at : goal.decreases-loop-at
decreases-loop-at l = length l.items - l.at
