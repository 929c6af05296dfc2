use Rattle.desk_ops.proofs.Arrive.{walk_after}
use Rattle.desk_ops.proofs.laws.scan_gives_walk.Goals as goal

pub returns : goal.returns
returns c = λ h o x l one is fresh none. walk_after h o x is fresh l one none
