use Rattle.std.proofs.Common.{◌≡◌, ◌≤◌}
use Rattle.feed_history.specs.Corrections.{first_to}
use Rattle.feed_history.proofs.corrections.first_to.Given as goal

abbrev pub invariant-loop-first : goal.invariant-loop-first
invariant-loop-first l = record {
  same : first_to l.ops l.site l.first ≡ first_to l.ops l.site l.last;
  within : l.first ≤ l.last;
}

abbrev pub decreases-loop-first : goal.decreases-loop-first
decreases-loop-first l = l.first
