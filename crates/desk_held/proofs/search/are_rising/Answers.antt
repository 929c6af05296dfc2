use Rattle.std.proofs.Common.{◌≡◌, ◌∙◌, true, get_or, sym, ap, arith}
use Rattle.std.specs.Ordering.{is_lt}
use Rattle.std.proofs.lemmas.List.{get_or_default}
use Rattle.desk_ops.specs.declared.op.Op.{Op}
use Rattle.desk_ops.specs.Order.{op_cmp}
use Rattle.desk_ops.proofs.Stamps.{is_less}
use Rattle.desk_held.proofs.Pairs.{rising-from, pairs-more}
use Rattle.desk_held.proofs.search.are_rising.Goals as goal

pub loop-i-preserved : goal.loop-i-preserved
loop-i-preserved c =
    let slots = c.args.slots.now in
    let i = c.loop-i.i in
    let x : Op = c.index-slots-i.result in
    let y : Op = c.index-slots-i-in-loop-i.result in
    let reported : is_lt (op_cmp x y) ≡ true = ap (λ (o : Op). is_lt (op_cmp x o)) (sym c.op.ensures) ∙ sym c.comes_before.ensures ∙ c.if-not-comes_before.false in (
      omega arith,
      pairs-more slots i x c.loop-i.invariant.0 c.loop-i-test.true c.loop-i.invariant.1
          (ap (λ (o : Op). op_cmp o (get_or slots i x)) (sym c.index-slots-i.is) ∙ ap (op_cmp x) (get_or_default slots i x y c.loop-i-test.true ∙ sym c.index-slots-i-in-loop-i.is) ∙ is_less (op_cmp x y) reported),
    )

pub returns : goal.returns
returns c = λ _. rising-from c.args.slots.now (λ k d l. c.loop-i.invariant.1 k d (omega arith) l)
