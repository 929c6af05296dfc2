use Rattle.desk_ops.proofs.OpSets.{with_op-known}
use Rattle.desk_ops.proofs.Unions.{has_op-union, union-comm, union-assoc, union-same, with_op-comm}
use Rattle.desk_ops.proofs.laws.merging_is_union.Goals as goal

pub returns : goal.returns
returns c = record {
  holds = has_op-union;
  comm = union-comm;
  assoc = union-assoc;
  idempotent = union-same;
  any_order = with_op-comm;
  again = with_op-known;
}
