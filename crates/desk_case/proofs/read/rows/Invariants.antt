use Rattle.desk_case.proofs.Rows.{AreRowsReadTo}
use Rattle.desk_case.proofs.read.rows.Given as goal

abbrev pub invariant-loop-item : goal.invariant-loop-item
invariant-loop-item l = AreRowsReadTo l.columns l.item-items l.item-index l.matrices.items
