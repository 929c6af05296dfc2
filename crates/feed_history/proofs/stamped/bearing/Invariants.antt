use Rattle.std.proofs.Common.{◌≡◌, ◌≤◌, ◌-◌, true, length}
use Rattle.std.specs.List.{AllWithin}
use Rattle.desk_ops.specs.Stamp.{same}
use Rattle.feed_history.proofs.stamped.bearing.Given as goal

abbrev pub invariant-loop-until : goal.invariant-loop-until
invariant-loop-until g l = record {
  after : l.from ≤ l.until;
  within : l.until ≤ length l.items;
  bear : AllWithin (λ x. same (g.T.Stamped.borne x) l.stamp ≡ true) l.items l.from l.until;
}

abbrev pub decreases-loop-until : goal.decreases-loop-until
decreases-loop-until g l = length l.items - l.until
