use Rattle.std.proofs.Common.{◌≤◌, drop, length}
use Rattle.feed_history.specs.RoomsTables.{AreMade}
use Rattle.feed_history.proofs.rooms_made.made_of_each.Given as goal

abbrev pub invariant-ops : goal.invariant-ops
invariant-ops g l = record {
  within : l.at ≤ length l.ops;
  so_far : AreMade (drop l.at l.ops) l.rooms.items;
}

abbrev pub decreases-ops : goal.decreases-ops
decreases-ops g l = l.at
