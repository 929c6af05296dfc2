use Rattle.desk_case.proofs.Indexes.{IsIndexedTo}
use Rattle.desk_case.proofs.read.cells.Given as goal

abbrev pub invariant-loop-at : goal.invariant-loop-at
invariant-loop-at l = IsIndexedTo l.grid l.at l.cells.entries
