use Rattle.std.proofs.Common.{refl}
use Rattle.desk_ops.specs.Stamp.{stamp_cmp, same}
use Rattle.desk_ops.specs.OrderLaws.{op_total, op_antisymmetric}
use Rattle.desk_ops.proofs.Stamps.{same-true, same-from, before_from, before_true}
use Rattle.desk_ops.proofs.Means.{by_stamp}
use Rattle.desk_ops.proofs.laws.order_goes_by_stamp.Goals as goal

pub returns : goal.returns
unfolding stamp_cmp same
returns c = record {
  ops = by_stamp;
  total = op_total;
  tied = op_antisymmetric;
  stamps = λ s t. (before_from s t, before_true s t);
  one = λ s t. (same-true s t, same-from s t);
  compared = λ s t. refl;
  equal = λ s t. refl;
}
