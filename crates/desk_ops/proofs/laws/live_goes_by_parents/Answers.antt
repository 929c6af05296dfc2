use Rattle.desk_ops.proofs.Ends.{live_from_op, op_from_live}
use Rattle.desk_ops.proofs.laws.live_goes_by_parents.Goals as goal

pub returns : goal.returns
returns c = λ h l x. (op_from_live h l x, live_from_op h l x)
