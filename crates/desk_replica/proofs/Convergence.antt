-- Equal sets answer alike, and which set is left depends on which operations came.
use Rattle.std.proofs.Common.{◌≡◌, List, sym, ap, ◌∙◌, ◌||◌}
use Rattle.std.specs.List.{list_any}
use Rattle.std.specs.Ordering.{eq_by_cmp}
use Rattle.desk_ops.specs.declared.op.Op.{Op}
use Rattle.desk_ops.specs.Order.{op_cmp}
use Rattle.desk_ops.specs.OpSet.{OpSet, has_op, with_all, union, in_order}
use Rattle.desk_ops.specs.Shown.{copy_of}
use Rattle.desk_ops.specs.Faults.{faults_of}
use Rattle.desk_codec.specs.Runs.{set_feed}
use Rattle.desk_ops.proofs.Means.{among-any, any-among}
use Rattle.desk_ops.proofs.Joined.{same_bool}
use Rattle.desk_ops.proofs.Unions.{same-set, has_op-with_all, union-comm, union-assoc, union-same, with_all-append}
use Rattle.desk_replica.specs.JobSettings.{settings_of}
use Rattle.desk_replica.specs.Laws.{AnswerAlike, HaveSameMembers, Convergence}

alike : (h g : OpSet) → h ≡ g → (h ≡ g) × AnswerAlike h g
alike h g e = (e, record { copy = ap copy_of e; faults = ap faults_of e; settings = ap settings_of e; order = ap in_order e; feed = ap set_feed e })

same_any : (os ps : List Op) → HaveSameMembers os ps → (q : Op) → list_any (eq_by_cmp op_cmp q) os ≡ list_any (eq_by_cmp op_cmp q) ps
same_any os ps m q = same_bool (list_any (eq_by_cmp op_cmp q) os) (list_any (eq_by_cmp op_cmp q) ps)
    (λ e. among-any q ps ((m q).0 (any-among q os e)))
    (λ e. among-any q os ((m q).1 (any-among q ps e)))

one_set : (h : OpSet) (os ps : List Op) → HaveSameMembers os ps → with_all h os ≡ with_all h ps
one_set h os ps m = same-set (with_all h os) (with_all h ps)
    (λ q. has_op-with_all h os q ∙ ap (λ b. b || has_op h q) (same_any os ps m q) ∙ sym (has_op-with_all h ps q))

pub convergence : Convergence
convergence = record {
  equal_sets = λ h g e. alike h g (same-set h g e);
  any_order = λ h os ps m. alike (with_all h os) (with_all h ps) (one_set h os ps m);
  in_parts = λ h os ps. sym (with_all-append h os ps);
  either_way = λ h g. alike (union h g) (union g h) (union-comm h g);
  in_groups = λ h g k. alike (union (union h g) k) (union h (union g k)) (union-assoc h g k);
  again = λ h g. (union-assoc h g g ∙ ap (union h) (union-same g), union-same h);
}
