use Rattle.desk_ops.proofs.Tree.{walk_of_kids}
use Rattle.desk_ops.proofs.laws.walk_goes_by_kids.Goals as goal

pub returns : goal.returns
returns c = λ h l. walk_of_kids h l
