use Rattle.std.proofs.Common.{◌≡◌, ◌≤◌, ◌++◌, drop}
use Rattle.feed_history.specs.Spots.{spots_from}
use Rattle.feed_history.proofs.spots.spots_of.Given as goal

abbrev pub invariant-loop-at : goal.invariant-loop-at
invariant-loop-at g l =
    let entries = g.Q.Sequence.entries in
    record {
      within : l.place ≤ l.at;
      so_far : l.spots.items ++ spots_from l.place (drop l.at (entries l.sequence)) ≡ spots_from 0 (entries l.sequence);
    }
