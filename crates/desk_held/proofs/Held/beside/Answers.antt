use Rattle.std.proofs.Common.{◌≡◌, ℕ, ◌≤◌, ◌-◌, ◌∙◌, ◌++◌, List, ap, subst, arith, length, take, drop}
use Rattle.std.proofs.lemmas.List.{length-drop, length-take, take_all}
use Rattle.desk_ops.specs.declared.op.Op.{Op}
use Rattle.desk_ops.specs.OpSet.{no_ops, with_all}
use Rattle.desk_held.specs.Holding.{Holding}
use Rattle.desk_held.proofs.Joins.{beside-more, beside-all}
use Rattle.desk_held.proofs.Held.beside.Goals as goal

rest : (n : ℕ) (ops : List Op) → take (length ops - n) (drop n ops) ≡ drop n ops
rest n ops = take_all (length ops - n) (drop n ops) (omega (arith, length-drop n ops))

pub loop-at-preserved : goal.loop-at-preserved
loop-at-preserved g c =
    let held = c.self.inside.ops.entries in
    let ops = c.args.ops.now in
    let part = c.stretch-part.result.now in
    let n = c.loop-at.added in
    let long : length part ≡ length (take (length part) (drop c.loop-at.at held)) = ap length c.stretch-part.ensures.is in
    let few : c.in_ok-count.count ≤ length (drop n ops) = subst (λ (l : List Op). c.in_ok-count.count ≤ length l) (rest n ops) c.in_ok-count.ensures.within in
    record {
      within = omega (arith, long, length-take (length part) (drop c.loop-at.at held), length-drop c.loop-at.at held, c.loop-at.invariant.within);
      place = omega (arith, few, length-drop n ops, c.loop-at.invariant.place);
      whole = beside-more held ops part c.loop-at.slots.items c.add_part.new.slots.items c.loop-at.at n c.in_ok-count.count c.stretch-part.ensures.is c.loop-at.invariant.whole
          (c.in_ok-count.ensures.added ∙ ap (λ (l : List Op). with_all (with_all (with_all no_ops c.loop-at.slots.items) part) (take c.in_ok-count.count l)) (rest n ops));
    }

pub returns : goal.returns
returns g c =
    let held = c.self.inside.ops.entries in
    let ops = c.args.ops.now in
    let n = c.loop-at.added in
    beside-all held ops c.loop-at.slots.items c.add_ops.new.slots.items c.loop-at.at n c.self.invariant.rising (omega (arith, c.loop-at-test.false, c.len-in-loop-at.ensures)) c.loop-at.invariant.whole
    (c.in_ok-add_ops.ensures ∙ ap (λ (l : List Op). c.loop-at.slots.items ++ l) (rest n ops))
    ∙ ap (λ (h : Holding). with_all h.ops ops) c.self.view_is
