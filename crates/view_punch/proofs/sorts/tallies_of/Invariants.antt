use Rattle.view_punch.specs.Counting.{AreTalliesTo}
use Rattle.view_punch.proofs.sorts.tallies_of.Given as goal

abbrev pub invariant-loop-place : goal.invariant-loop-place
invariant-loop-place g l = AreTalliesTo l.copy l.place l.tallies
