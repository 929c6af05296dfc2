use Rattle.toml.specs.View.{table_view}
use Rattle.desk_case.proofs.FirstFault.{never_order}
use Rattle.desk_case.proofs.MatrixCase.read.Goals as goal

pub returns-clause-order : goal.returns-clause-order
returns-clause-order c = never_order (table_view c.in_ok-table.table) c.case.result c.case.ensures.value
