use Rattle.desk_ops.proofs.Means.{shown-kept}
use Rattle.desk_ops.proofs.laws.order_is_kept.Goals as goal

pub returns : goal.returns
returns c = λ h g lh lg w x y b mx my. shown-kept h g w lg lh x y b mx my
