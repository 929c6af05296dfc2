use Rattle.desk_ops.proofs.One.{one_order}
use Rattle.desk_ops.proofs.laws.one_order_holds.Goals as goal

pub returns : goal.returns
returns c = λ h g lh lg u w. one_order h g lh lg u w
