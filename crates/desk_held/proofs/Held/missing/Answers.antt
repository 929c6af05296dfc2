use Rattle.std.proofs.Common.{◌≡◌, ◌∙◌, List, refl, sym, subst, arith}
use Rattle.std.specs.Prelude.{T, All, Result, Ok, Err, IfOk}
use Rattle.std.specs.List.{AllByRecursion}
use Rattle.desk_ops.specs.declared.op.Op.{Op}
use Rattle.desk_ops.specs.Op.{IsLawful}
use Rattle.desk_ops.specs.OpSet.{OpSet, is_rising, size, AllLawful}
use Rattle.desk_held.specs.Passing.{missing_of, IsMissing, IsInTurn}
use Rattle.desk_held.proofs.Joins.{none_held, no_ops-in_order}
use Rattle.desk_held.proofs.Lacking.{missing-of_rising, missing-of_none, listed-lawful}
use Rattle.desk_held.proofs.Held.missing.Goals as goal

-- of the list in order, and so of the list
of_turn : (h : OpSet) (ops sorted : List Op) → IsInTurn ops sorted → IsMissing h ops (missing_of h sorted)
of_turn h ops sorted t =
    let m = missing-of_rising h sorted t.rising in
    record { whole = m.whole ∙ t.whole h; none = m.none; rising = m.rising; few = let a = m.few in let b = t.few in omega (arith, a, b) }

lacked : {V E : Type 0} (r : Result V E) (items : V → List Op) (h : OpSet) (ops sorted : List Op) → IsInTurn ops sorted → IfOk r (λ v. items v ≡ missing_of h sorted) → IfOk r (λ v. IsMissing h ops (items v))
lacked (Ok v) items h ops sorted t e = subst (IsMissing h ops) (sym e) (of_turn h ops sorted t)
lacked (Err x) items h ops sorted t e = tt

-- a set of none lacks all
lacked_all : (h : OpSet) (ops sorted : List Op) → size h ≡ 0 → IsInTurn ops sorted → IsMissing h ops sorted
lacked_all h ops sorted none t = subst (IsMissing h ops) (missing-of_none h sorted (none_held h none)) (of_turn h ops sorted t)

in_turn : (ops : List Op) → T (is_rising ops) → IsInTurn ops ops
in_turn ops rising = record { whole = λ h. refl; rising = rising; few = omega arith }

-- a set of none is lawful
lawful_none : (h : OpSet) → size h ≡ 0 → AllLawful h
lawful_none h none = subst AllLawful (sym (none_held h none)) (subst (AllByRecursion IsLawful) (sym no_ops-in_order) tt)

lawful : {V E : Type 0} (r : Result V E) (items : V → List Op) (h : OpSet) (ops : List Op) → AllLawful h → IfOk r (λ v. IsMissing h ops (items v)) → All IsLawful ops → IfOk r (λ v. All IsLawful (items v))
lawful (Ok v) items h ops l m all = listed-lawful h h (items v) ops l all m.whole
lawful (Err x) items h ops l m all = tt

pub returns-then-is_rising-clause-missing : goal.returns-then-is_rising-clause-missing
returns-then-is_rising-clause-missing g c =
    lacked c.missing_of_rising.result (λ v. v.items) c.args.self.now.ops c.args.ops.now c.args.ops.now (in_turn c.args.ops.now (c.is_rising.ensures c.if-is_rising.true)) c.missing_of_rising.ensures.missing

pub returns-then-is_rising-clause-lawful : goal.returns-then-is_rising-clause-lawful
returns-then-is_rising-clause-lawful g c =
    lawful c.missing_of_rising.result (λ v. v.items) c.args.self.now.ops c.args.ops.now c.missing_of_rising.ensures.lawful
    (lacked c.missing_of_rising.result (λ v. v.items) c.args.self.now.ops c.args.ops.now c.args.ops.now (in_turn c.args.ops.now (c.is_rising.ensures c.if-is_rising.true)) c.missing_of_rising.ensures.missing)

pub returns-clause-missing : goal.returns-clause-missing
returns-clause-missing g c =
    lacked c.missing_of_rising-2.result (λ v. v.items) c.args.self.now.ops c.args.ops.now c.in_ok-list.list.items c.in_ok-list.ensures (subst (λ (l : List Op). IfOk c.missing_of_rising-2.result (λ v. v.items ≡ missing_of c.args.self.now.ops l)) c.deref.ensures.value c.missing_of_rising-2.ensures.missing)

pub returns-clause-lawful : goal.returns-clause-lawful
returns-clause-lawful g c =
    lawful c.missing_of_rising-2.result (λ v. v.items) c.args.self.now.ops c.args.ops.now c.missing_of_rising-2.ensures.lawful
    (lacked c.missing_of_rising-2.result (λ v. v.items) c.args.self.now.ops c.args.ops.now c.in_ok-list.list.items c.in_ok-list.ensures (subst (λ (l : List Op). IfOk c.missing_of_rising-2.result (λ v. v.items ≡ missing_of c.args.self.now.ops l)) c.deref.ensures.value c.missing_of_rising-2.ensures.missing))

pub returns-then-is_empty-clause-missing : goal.returns-then-is_empty-clause-missing
returns-then-is_empty-clause-missing g c =
    lacked_all c.args.self.now.ops c.args.ops.now c.in_ok-list.list.items (c.is_empty.ensures.0 c.if-is_empty.true) c.in_ok-list.ensures

pub returns-then-is_empty-clause-lawful : goal.returns-then-is_empty-clause-lawful
returns-then-is_empty-clause-lawful g c all =
    listed-lawful c.args.self.now.ops c.args.self.now.ops c.in_ok-list.list.items c.args.ops.now (lawful_none c.args.self.now.ops (c.is_empty.ensures.0 c.if-is_empty.true)) all
    (lacked_all c.args.self.now.ops c.args.ops.now c.in_ok-list.list.items (c.is_empty.ensures.0 c.if-is_empty.true) c.in_ok-list.ensures).whole
