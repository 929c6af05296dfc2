use Rattle.desk_case.proofs.Descents.{begun}
use Rattle.desk_case.proofs.descend.Goals as goal

pub loop-cell-init : goal.loop-cell-init
loop-cell-init c = begun c.args.wedge.now c.args.cells.now c.first-item.result c.units-before.result c.in-len1-up.len_at_least c.first-item.is c.units-before.ensures.value
