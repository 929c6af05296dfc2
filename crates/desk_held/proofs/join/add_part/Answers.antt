use Rattle.std.proofs.Common.{◌≡◌, ◌∙◌, ◌++◌, List, ◌∷◌, [], ◌≤◌, ◌-◌, ap, subst, arith, length, take, drop}
use Rattle.std.proofs.lemmas.List.{length-drop, take_all}
use Rattle.desk_ops.specs.declared.op.Op.{Op}
use Rattle.desk_ops.specs.OpSet.{no_ops, with_all}
use Rattle.desk_held.proofs.Joins.{part-more}
use Rattle.desk_held.proofs.join.add_part.Goals as goal

pub loop-at-preserved : goal.loop-at-preserved
loop-at-preserved g c =
    let x : Op = c.index-part-at.result in
    let ops = c.args.ops.now in
    let n = c.loop-at.count in
    let rest : take (length ops - n) (drop n ops) ≡ drop n ops = take_all (length ops - n) (drop n ops) (omega (arith, length-drop n ops)) in
    let few : c.in_ok-more.more ≤ length (drop n ops) = subst (λ (l : List Op). c.in_ok-more.more ≤ length l) rest c.in_ok-more.ensures.within in (
      omega (arith, length-drop n ops, few, c.loop-at.invariant.0),
      part-more (with_all no_ops c.args.slots.now.items) c.args.part.now c.args.ops.now c.loop-at.slots.items c.push.new.self.items c.loop-at.at c.loop-at.count c.in_ok-more.more x
          c.loop-at-test.true c.index-part-at.is c.loop-at.invariant.1
          (c.in_ok-push.ensures.items ∙ ap (λ (l : List Op). l ++ x ∷ []) (c.in_ok-more.ensures.added ∙ ap (λ (l : List Op). c.loop-at.slots.items ++ take c.in_ok-more.more l) rest)),
    )
