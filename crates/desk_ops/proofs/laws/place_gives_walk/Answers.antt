use Rattle.std.proofs.Common.{◌∙◌}
use Rattle.desk_ops.specs.Stamp.{head}
use Rattle.desk_ops.specs.Walk.{walk_from}
use Rattle.desk_ops.proofs.Scans.{place-walk}
use Rattle.desk_ops.proofs.Places.{scan-at}
use Rattle.desk_ops.proofs.laws.place_gives_walk.Goals as goal

pub returns : goal.returns
returns c = λ xs e i up nh n p. place-walk e xs up n head nh ∙ scan-at e (walk_from xs head) i p
