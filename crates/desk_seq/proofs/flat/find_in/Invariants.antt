use Rattle.std.proofs.Common.{◌≡◌, ℕ, ◌≤◌, ◌<◌, ◌-◌, false, length, get_or}
use Rattle.desk_ops.specs.Stamp.{head, same}
use Rattle.desk_seq.specs.Entries.{stamps_of}
use Rattle.desk_seq.proofs.flat.find_in.Given as goal

abbrev pub invariant-loop-at : goal.invariant-loop-at
invariant-loop-at l = (l.at ≤ length l.items) × ((k : ℕ) → k < l.at → same (get_or (stamps_of l.items) k head) l.stamp ≡ false)

abbrev pub decreases-loop-at : goal.decreases-loop-at
decreases-loop-at l = length l.items - l.at
