-- Sets of operations: the laws that merging rests on.
use Rattle.std.proofs.Common.{ℕ, zero, suc, ◌+◌, ◌<◌, ◌≤◌, length, take, get_or, arith, ◌≡◌, Bool, true, false, cond, ◌||◌, List, [], ◌∷◌, ◌++◌, refl, sym, ap, ◌∙◌, Some, None, Option}
use Rattle.std.specs.Option.{is_some}
use Rattle.std.specs.List.{list_any}
use Rattle.std.specs.Ordering.{eq_by_cmp}
use Rattle.std.proofs.lemmas.Bool.{true≢false}
use Rattle.std.specs.FinMap as fin
use Rattle.std.proofs.Math.Bool.{or_comm, or_self}
use Rattle.desk_ops.specs.declared.op.Op.{Op}
use Rattle.desk_ops.specs.Order.{op_cmp}
use Rattle.desk_ops.specs.OpSet.{OpSet, no_ops, has_op, with_op, with_all, union, in_order, size}
use Rattle.desk_ops.specs.OrderLaws.{op_total, op_antisymmetric}
use Rattle.desk_ops.proofs.OpSets.{none-held}
use Rattle.desk_ops.proofs.Stamps.{by_cases}

-- ---- sets

pub has_op-with_op : (h : OpSet) (o q : Op) → has_op (with_op h o) q ≡ (eq_by_cmp op_cmp q o || has_op h q)
has_op-with_op h o q = ap is_some (fin.get-insert op_total h o tt q) ∙ some-or (eq_by_cmp op_cmp q o) (fin.get h q)
  where
    some-or : (b : Bool) (x : Option (Unit {0})) → is_some (cond b (Some tt) x) ≡ (b || is_some x)
    some-or true x = refl
    some-or false x = refl

unit-some : (x y : Option (Unit {0})) → is_some x ≡ is_some y → x ≡ y
unit-some None None e = refl
unit-some None (Some u) e = absurd (true≢false (sym e))
unit-some (Some u) None e = absurd (true≢false e)
unit-some (Some u) (Some v) e = refl

-- sets with the same members are one
pub same-set : (h g : OpSet) → ((q : Op) → has_op h q ≡ has_op g q) → h ≡ g
same-set h g e = fin.same_map op_total op_antisymmetric h g (λ q. unit-some (fin.get h q) (fin.get g q) (e q))

pub or-swap : (a b c : Bool) → (a || (b || c)) ≡ (b || (a || c))
or-swap true true c = refl
or-swap true false c = refl
or-swap false b c = refl

pub or-group : (a b c : Bool) → ((a || b) || c) ≡ (a || (b || c))
or-group true b c = refl
or-group false b c = refl

pub has_op-with_all : (h : OpSet) (os : List Op) (q : Op) → has_op (with_all h os) q ≡ (list_any (eq_by_cmp op_cmp q) os || has_op h q)
has_op-with_all h [] q = refl
has_op-with_all h (o ∷ os) q = has_op-with_all (with_op h o) os q ∙ ap (λ b. list_any (eq_by_cmp op_cmp q) os || b) (has_op-with_op h o q)
    ∙ or-swap (list_any (eq_by_cmp op_cmp q) os) (eq_by_cmp op_cmp q o) (has_op h q) ∙ sym (or-group (eq_by_cmp op_cmp q o) (list_any (eq_by_cmp op_cmp q) os) (has_op h q))

pub has_op-union : (h g : OpSet) (q : Op) → has_op (union h g) q ≡ (has_op h q || has_op g q)
has_op-union h g q = has_op-with_all h (in_order g) q ∙ ap (λ b. b || has_op h q) (sym (fin.contains_key-keys g q)) ∙ or_comm (has_op g q) (has_op h q)

pub union-comm : (h g : OpSet) → union h g ≡ union g h
union-comm h g = same-set (union h g) (union g h) (λ q. has_op-union h g q ∙ or_comm (has_op h q) (has_op g q) ∙ sym (has_op-union g h q))

-- a set is what its operations make of none
pub with_all-in_order : (h : OpSet) → with_all no_ops (in_order h) ≡ h
with_all-in_order h = same-set (with_all no_ops (in_order h)) h (λ q. has_op-union no_ops h q ∙ ap (λ b. b || has_op h q) (none-held q))

pub union-same : (h : OpSet) → union h h ≡ h
union-same h = same-set (union h h) h (λ q. has_op-union h h q ∙ or_self (has_op h q))

pub union-assoc : (h g k : OpSet) → union (union h g) k ≡ union h (union g k)
union-assoc h g k = same-set (union (union h g) k) (union h (union g k))
    (λ q. has_op-union (union h g) k q ∙ ap (λ b. b || has_op k q) (has_op-union h g q) ∙ or-group (has_op h q) (has_op g q) (has_op k q) ∙ sym (has_op-union h (union g k) q ∙ ap (λ b. has_op h q || b) (has_op-union g k q)))

-- one operation more at the end of the list
pub with_all_push : (h : OpSet) (os : List Op) (o : Op) → with_all h (os ++ o ∷ []) ≡ with_op (with_all h os) o
with_all_push h [] o = refl
with_all_push h (p ∷ os) o = with_all_push (with_op h p) os o

pub with_all-append : (h : OpSet) (os ps : List Op) → with_all h (os ++ ps) ≡ with_all (with_all h os) ps
with_all-append h [] ps = refl
with_all-append h (o ∷ os) ps = with_all-append (with_op h o) os ps

-- one more of the list
pub with_all-take : (h : OpSet) (os : List Op) (k : ℕ) (d : Op) → k < length os → with_all h (take (k + 1) os) ≡ with_op (with_all h (take k os)) (get_or os k d)
with_all-take h [] k d lt = absurd (omega arith)
with_all-take h (o ∷ os) zero d lt = refl
with_all-take h (o ∷ os) (suc k) d lt = let e : suc k + 1 ≡ suc (k + 1) = omega arith in ap (λ n. with_all h (take n (o ∷ os))) e ∙ with_all-take (with_op h o) os k d (omega arith)

-- the order of arrival says nothing
pub with_op-comm : (h : OpSet) (o p : Op) → with_op (with_op h o) p ≡ with_op (with_op h p) o
with_op-comm h o p = same-set (with_op (with_op h o) p) (with_op (with_op h p) o)
    (λ q. has_op-with_op (with_op h o) p q ∙ ap (λ b. eq_by_cmp op_cmp q p || b) (has_op-with_op h o q)
    ∙ or-swap (eq_by_cmp op_cmp q p) (eq_by_cmp op_cmp q o) (has_op h q)
    ∙ sym (has_op-with_op (with_op h p) o q ∙ ap (λ b. eq_by_cmp op_cmp q o || b) (has_op-with_op h p q)))

pub size-with_op : (h : OpSet) (o : Op) → size (with_op h o) ≡ cond (has_op h o) (size h) (size h + 1)
size-with_op h o = fin.len-insert op_total h o tt

-- how many a list makes of them
pub size-few : (h : OpSet) (os : List Op) → size (with_all h os) ≤ size h + length os
size-few h [] = omega arith
size-few h (o ∷ os) =
    let few : size (with_all (with_op h o) os) ≤ size (with_op h o) + length os = size-few (with_op h o) os in
    by_cases (has_op h o)
    (λ k. let e : size (with_op h o) ≡ size h = size-with_op h o ∙ ap (λ b. cond b (size h) (size h + 1)) k in omega (arith, e, few))
    (λ k. let e : size (with_op h o) ≡ size h + 1 = size-with_op h o ∙ ap (λ b. cond b (size h) (size h + 1)) k in omega (arith, e, few))
