-- Sets of operations by their lists in order.
use Rattle.std.proofs.Common.{◌≡◌, ◌∙◌, ℕ, Bool, true, List, sym, ap, subst}
use Rattle.std.specs.Prelude.{◌↔◌, T}
use Rattle.std.specs.Bool.{Decides}
use Rattle.std.specs.Ordering.{is_eq}
use Rattle.std.specs.FinMap as fin
use Rattle.std.proofs.lemmas.Cmp.{tied_itself}
use Rattle.desk_ops.specs.contracts.op.OpPartialEq.TheImpl as op_eq
use Rattle.desk_ops.specs.declared.op.Op.{Op}
use Rattle.desk_ops.specs.Order.{op_cmp}
use Rattle.desk_ops.specs.OrderLaws.{op_antisymmetric, op_tie, op_total}
use Rattle.desk_ops.specs.OpSet.{OpSet, from_rising, in_order, is_rising}
use Rattle.desk_ops.proofs.OpSets.{has_op-from_rising}
use Rattle.desk_ops.proofs.Stamps.{is_equal}
use Rattle.desk_ops.proofs.Unions.{same-set}
use Rattle.feed_sites.specs.Reported.{ReportsAlone}
use Rattle.desk_codec.proofs.GroupLaws.{set_rises}

-- `==` on operations says whether they are one
pub same_operations : (x y : Op) → Decides ((op_eq.ghosts).eq x y) (x ≡ y)
same_operations x y = (
  λ e. op_antisymmetric x y (is_equal (op_cmp x y) (sym (op_tie x y) ∙ e)),
  λ same. op_tie x y ∙ ap (λ (o : Op). is_eq (op_cmp x o)) (sym same) ∙ ap is_eq (tied_itself op_total x),
)

pub list_rises : (set : OpSet) (ops : List Op) → ops ≡ in_order set → T (is_rising ops)
list_rises set ops is = subst (λ (l : List Op). T (is_rising l)) (sym is) (set_rises set)

-- a set is that of its list
pub set_again : (set : OpSet) (ops : List Op) → ops ≡ in_order set → from_rising ops ≡ set
set_again set ops is = ap from_rising is ∙ same-set (from_rising (in_order set)) set (λ q. has_op-from_rising (in_order set) q (set_rises set) ∙ sym (fin.contains_key-keys set q))

-- sets are one where their lists are
pub sets_one : (first second : OpSet) (ones others : List Op) (same : Bool) → ones ≡ in_order first → others ≡ in_order second → Decides same (ones ≡ others) → (same ≡ true) ↔ (first ≡ second)
sets_one first second ones others same is are reported = (
  λ e. sym (set_again first ones is) ∙ ap from_rising (reported.0 e) ∙ set_again second others are,
  λ e. reported.1 (is ∙ ap in_order e ∙ sym are),
)

pub reports_sets : (one other : List ℕ) (first second : OpSet) (ones others : List Op) (lines : List ℕ) → ones ≡ in_order first → others ≡ in_order second → ReportsAlone one other (from_rising ones) (from_rising others) lines
    → ReportsAlone one other first second lines
reports_sets one other first second ones others lines is are reported =
    subst (λ (set : OpSet). ReportsAlone one other first set lines) (set_again second others are) (subst (λ (set : OpSet). ReportsAlone one other set (from_rising others) lines) (set_again first ones is) reported)
