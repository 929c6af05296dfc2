use Rattle.std.proofs.Common.{◌≡◌, ◌≤◌, drop, length}
use Rattle.desk_ops.specs.declared.op.Stamp.{Stamp}
use Rattle.feed_readings.specs.Cuts.{place_from}
use Rattle.feed_readings.specs.Finding.{place_in}
use Rattle.feed_readings.proofs.cuts.places_of.Given as goal

abbrev pub invariant-loop-at : goal.invariant-loop-at
invariant-loop-at g l = record {
  within : l.at ≤ length l.list;
  placed : (stamp : Stamp) → place_in l.places stamp ≡ place_from l.at (drop l.at l.list) stamp;
}

abbrev pub decreases-loop-at : goal.decreases-loop-at
decreases-loop-at g l = l.at
