use Rattle.std.proofs.Common.{◌≡◌, drop}
use Rattle.view_ribbon.specs.Differences.{are_same_matrices}
use Rattle.view_ribbon.proofs.differences.are_same_matrices.Given as goal

abbrev pub invariant-loop-a : goal.invariant-loop-a
invariant-loop-a l = are_same_matrices (drop l.a-index l.one) l.rest ≡ are_same_matrices l.one l.other
