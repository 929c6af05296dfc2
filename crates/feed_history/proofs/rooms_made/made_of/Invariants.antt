use Rattle.std.proofs.Common.{◌≡◌, ◌≤◌, drop, length}
use Rattle.feed_history.specs.Rooms.{made_of}
use Rattle.feed_history.proofs.rooms_made.made_of.Given as goal

abbrev pub invariant-ops : goal.invariant-ops
invariant-ops l = record {
  within : l.at ≤ length l.ops;
  so_far : l.made ≡ made_of (drop l.at l.ops);
}

abbrev pub decreases-ops : goal.decreases-ops
decreases-ops l = l.at
