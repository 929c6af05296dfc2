use Rattle.std.proofs.Common.{◌≡◌, ◌∙◌, true, get_or, sym, ap, arith}
use Rattle.std.specs.Ordering.{is_lt}
use Rattle.std.proofs.lemmas.List.{get_or_default}
use Rattle.desk_ops.specs.declared.op.Op.{Op}
use Rattle.desk_walk.specs.Turn.{turn_cmp}
use Rattle.desk_walk.proofs.Turns.{turn-from, pairs-more}
use Rattle.desk_walk.proofs.turn.is_in_turn.Goals as goal

pub loop-i-preserved : goal.loop-i-preserved
loop-i-preserved c =
    let ops = c.args.ops.now in
    let i = c.loop-i.i in
    let x : Op = c.index-ops-i.result in
    let y : Op = c.index-ops-i-in-loop-i.result in
    let reported : is_lt (turn_cmp x y) ≡ true = ap (λ (o : Op). is_lt (turn_cmp o y)) (sym c.op.ensures) ∙ ap (λ (o : Op). is_lt (turn_cmp c.op.result o)) (sym c.op-in-loop-i.ensures) ∙ sym c.is_earlier.ensures ∙ c.if-not-is_earlier.false in (
      omega arith,
      pairs-more ops i x c.loop-i.invariant.0 c.loop-i-test.true c.loop-i.invariant.1
          (ap (λ (o : Op). is_lt (turn_cmp o (get_or ops i x))) (sym c.index-ops-i.is) ∙ ap (λ (o : Op). is_lt (turn_cmp x o)) (get_or_default ops i x y c.loop-i-test.true ∙ sym c.index-ops-i-in-loop-i.is) ∙ reported),
    )

pub returns : goal.returns
returns c = λ _. turn-from c.args.ops.now (λ k d l. c.loop-i.invariant.1 k d (omega arith) l)
