-- Sets that hold all of another, by how many they hold.
use Rattle.std.proofs.Common.{◌≡◌, ◌∙◌, ◌+◌, ◌≤◌, Bool, true, false, ◌||◌, cond, List, [], ◌∷◌, refl, sym, ap, subst, arith}
use Rattle.std.specs.List.{list_any}
use Rattle.std.specs.Ordering.{eq_by_cmp}
use Rattle.desk_ops.specs.declared.op.Op.{Op}
use Rattle.desk_ops.specs.Order.{op_cmp}
use Rattle.desk_ops.specs.OpSet.{OpSet, has_op, in_order, no_ops, size, union, with_all, with_op}
use Rattle.desk_ops.proofs.OpSets.{none-held}
use Rattle.desk_ops.proofs.Stamps.{by_cases}
use Rattle.desk_ops.proofs.Unions.{has_op-union, has_op-with_all, same-set, size-with_op, union-comm}

grows : (set : OpSet) (ops : List Op) → size set ≤ size (with_all set ops)
grows set [] = omega arith
grows set (op ∷ ops) =
    let more : size (with_op set op) ≤ size (with_all (with_op set op) ops) = grows (with_op set op) ops in
    by_cases (has_op set op)
    (λ e. let same : size (with_op set op) ≡ size set = size-with_op set op ∙ ap (λ b. cond b (size set) (size set + 1)) e in omega (arith, more, same))
    (λ e. let one : size (with_op set op) ≡ size set + 1 = size-with_op set op ∙ ap (λ b. cond b (size set) (size set + 1)) e in omega (arith, more, one))

or_swap : (a b : Bool) → (a || (b || false)) ≡ (b || a)
or_swap true true = refl
or_swap true false = refl
or_swap false true = refl
or_swap false false = refl

-- a list joins what it makes alone
pub union_list : (set : OpSet) (ops : List Op) → union set (with_all no_ops ops) ≡ with_all set ops
union_list set ops = same-set (union set (with_all no_ops ops)) (with_all set ops)
    (λ q. has_op-union set (with_all no_ops ops) q
    ∙ ap (λ (b : Bool). has_op set q || b) (has_op-with_all no_ops ops q ∙ ap (λ (b : Bool). list_any (eq_by_cmp op_cmp q) ops || b) (none-held q))
    ∙ or_swap (has_op set q) (list_any (eq_by_cmp op_cmp q) ops)
    ∙ sym (has_op-with_all set ops q))

-- what a list makes alone is no more than what it makes with others
pub few_alone : (set : OpSet) (ops : List Op) → size (with_all no_ops ops) ≤ size (with_all set ops)
few_alone set ops =
    let more : size (with_all no_ops ops) ≤ size (union (with_all no_ops ops) set) = grows (with_all no_ops ops) (in_order set) in
    subst (λ (s : OpSet). size (with_all no_ops ops) ≤ size s) (union-comm (with_all no_ops ops) set ∙ union_list set ops) more

-- a set that adds nothing to another is no greater
pub size_within : (one other : OpSet) → union one other ≡ one → size other ≤ size one
size_within one other e =
    let more : size other ≤ size (union other one) = grows other (in_order one) in
    subst (λ (s : OpSet). size other ≤ size s) (union-comm other one ∙ e) more
