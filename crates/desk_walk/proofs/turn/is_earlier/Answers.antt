use Rattle.std.proofs.Common.{◌≡◌, ◌∙◌, sym, ap, true, false}
use Rattle.desk_ops.specs.declared.op.Stamp.{Stamp}
use Rattle.desk_ops.specs.Stamp.{same, before}
use Rattle.desk_ops.specs.Order.{op_cmp}
use Rattle.desk_walk.specs.Turn.{target_or_head}
use Rattle.desk_walk.proofs.Turns.{then-same, then-apart}
use Rattle.desk_walk.proofs.turn.is_earlier.Goals as goal

pub returns-then-is_same : goal.returns-then-is_same
returns-then-is_same c =
    let s = target_or_head c.args.b.now in
    let t = target_or_head c.args.a.now in
    let e : same s t ≡ true = sym (c.is_same.ensures ∙ ap (λ (u : Stamp). same u c.target_of-first.result) c.target_of-second.ensures ∙ ap (same s) c.target_of-first.ensures) ∙ c.if-is_same.true in
    c.lt.ensures ∙ sym (then-same s t (op_cmp c.args.a.now c.args.b.now) e)

pub returns : goal.returns
returns c =
    let s = target_or_head c.args.b.now in
    let t = target_or_head c.args.a.now in
    let e : same s t ≡ false = sym (c.is_same.ensures ∙ ap (λ (u : Stamp). same u c.target_of-first.result) c.target_of-second.ensures ∙ ap (same s) c.target_of-first.ensures) ∙ c.if-is_same.false in
    c.is_before.ensures ∙ ap (λ (u : Stamp). before u c.target_of-first.result) c.target_of-second.ensures ∙ ap (before s) c.target_of-first.ensures ∙ sym (then-apart s t (op_cmp c.args.a.now c.args.b.now) e)
