use Rattle.desk_case.proofs.Rows.{IsRowReadTo}
use Rattle.desk_case.proofs.read.add_row.Given as goal

abbrev pub invariant-loop-item : goal.invariant-loop-item
invariant-loop-item l = IsRowReadTo l.item-items l.item-index l.initial.matrices.items l.matrices.items
