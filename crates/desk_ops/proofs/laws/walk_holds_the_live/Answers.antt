use Rattle.desk_ops.specs.OpSet.{in_order}
use Rattle.desk_ops.proofs.Tree.{live-walk, walk-live, walk-apart}
use Rattle.desk_ops.proofs.laws.walk_holds_the_live.Goals as goal

pub returns : goal.returns
returns c = record {
  each = λ h l x. (walk-live (in_order h) x, live-walk h l x);
  once = λ h l. walk-apart h l;
}
