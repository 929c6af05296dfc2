use Rattle.desk_case.proofs.Rows.{IsGridReadTo}
use Rattle.desk_case.proofs.read.grid.Given as goal

abbrev pub invariant-loop-at : goal.invariant-loop-at
invariant-loop-at l = IsGridReadTo l.matrices l.at l.grid.items
