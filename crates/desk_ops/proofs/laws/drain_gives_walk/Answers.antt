use Rattle.std.proofs.Common.{ap}
use Rattle.desk_ops.specs.Stamp.{head}
use Rattle.desk_ops.specs.Walk.{walk_from, walk}
use Rattle.desk_ops.proofs.Drains.{drained, taken_in, walk_taken}
use Rattle.desk_ops.proofs.laws.drain_gives_walk.Goals as goal

pub returns : goal.returns
unfolding walk
returns c = record {
  step = λ h l xs t e m n there. (taken_in h l xs t e m n there, walk_taken h l xs t e m n);
  done = λ h l xs d. ap (λ ys. walk_from ys head) (drained h l xs d);
}
