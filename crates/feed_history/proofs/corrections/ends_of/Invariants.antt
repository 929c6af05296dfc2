use Rattle.std.proofs.Common.{◌≤◌, ◌<◌, ◌^◌, drop, length}
use Rattle.std.specs.Prelude.{All}
use Rattle.feed_history.specs.Corrections.{AreEnds}
use Rattle.feed_history.proofs.corrections.ends_of.Given as goal

abbrev pub invariant-loop-at : goal.invariant-loop-at
invariant-loop-at g l = record {
  within : l.at ≤ length l.ops;
  so_far : AreEnds (drop l.at l.ops) l.ends.items l.next.items;
  small : All (λ s. s.counter < 2 ^ 63) l.ends.items;
}

abbrev pub decreases-loop-at : goal.decreases-loop-at
decreases-loop-at g l = l.at
