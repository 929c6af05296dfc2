use Rattle.std.proofs.Common.{◌≡◌, ◌++◌, replicate, Some, None}
use Rattle.desk_case.proofs.read.add_blanks.Given as goal

abbrev pub invariant-loop : goal.invariant-loop
invariant-loop l = l.matrices.items ≡ l.initial.matrices.items ++ replicate l.counter (Some None)
