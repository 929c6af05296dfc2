use Rattle.std.proofs.Common.{◌≡◌, ◌≤◌, ◌-◌, true, false, length}
use Rattle.std.specs.List.{AllWithin}
use Rattle.desk_ops.specs.Stamp.{before}
use Rattle.desk_replica.proofs.seats.seat.Given as goal

abbrev pub invariant-loop-from : goal.invariant-loop-from
invariant-loop-from g l = record {
  order : l.from ≤ l.until;
  within : l.until ≤ length l.items;
  early : AllWithin (λ x. before (g.T.Stamped.borne x) l.stamp ≡ true) l.items 0 l.from;
  late : AllWithin (λ x. before (g.T.Stamped.borne x) l.stamp ≡ false) l.items l.until (length l.items);
}

abbrev pub decreases-loop-from : goal.decreases-loop-from
decreases-loop-from g l = l.until - l.from
