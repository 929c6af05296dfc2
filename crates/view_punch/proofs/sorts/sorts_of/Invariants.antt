use Rattle.std.proofs.Common.{◌≡◌, ◌++◌}
use Rattle.view_punch.proofs.sorts.sorts_of.Given as goal

abbrev pub invariant-loop-sort : goal.invariant-loop-sort
invariant-loop-sort g l = l.sorts.items ++ l.sort-iterator ≡ l.initial.sort-iterator
