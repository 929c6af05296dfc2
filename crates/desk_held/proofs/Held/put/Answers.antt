use Rattle.std.proofs.Common.{◌≡◌, ◌∙◌, ◌<◌, sym, ap, subst, false, arith, length}
use Rattle.std.specs.List.{insert}
use Rattle.std.proofs.lemmas.List.Edits.{length-insert}
use Rattle.desk_ops.specs.Op.{IsLawful}
use Rattle.desk_ops.specs.OpSet.{has_op, with_op, size, from_rising, max_ops}
use Rattle.desk_ops.proofs.OpSets.{IsGap, rising_insert, from_rising-insert, size-from_rising}
use Rattle.desk_ops.proofs.Lists.{Each-insert}
use Rattle.desk_held.specs.Holding.{Holding, IsKept}
use Rattle.desk_held.proofs.Edges.{gap-new}
use Rattle.desk_held.proofs.Held.put.Goals as goal

pub invariant_of-self : goal.invariant_of-self
invariant_of-self g c =
    let ops = c.self.inside.ops.entries in
    let op = c.args.op in
    let kept = c.self.invariant in
    let put = c.insert_in_order.ensures.put in
    let new : has_op (from_rising ops) op ≡ false = subst (λ (h : Holding). has_op h.ops op ≡ false) (sym c.self.view_is) c.requires.absent in
    let gap : IsGap ops op put.0 = gap-new op ops kept.rising put.0 put.1 new in
    let few : length ops < max_ops = subst (λ n. n < max_ops) (ap (λ (h : Holding). size h.ops) (sym c.self.view_is) ∙ size-from_rising ops kept.rising) c.requires.below in
    let more = length-insert ops put.0 op put.1.within in
    let is : IsKept (insert ops put.0 op) = record { rising = rising_insert ops op put.0 kept.rising gap; within = omega (arith, few, more); lawful = Each-insert IsLawful ops put.0 op kept.lawful c.requires.lawful } in
    subst IsKept (sym put.2) is

pub returns-clause-ops : goal.returns-clause-ops
returns-clause-ops g c =
    let ops = c.self.inside.ops.entries in
    let op = c.args.op in
    let put = c.insert_in_order.ensures.put in
    let new : has_op (from_rising ops) op ≡ false = subst (λ (h : Holding). has_op h.ops op ≡ false) (sym c.self.view_is) c.requires.absent in
    ap from_rising put.2 ∙ from_rising-insert ops op put.0 c.self.invariant.rising (gap-new op ops c.self.invariant.rising put.0 put.1 new) ∙ ap (λ (h : Holding). with_op h.ops op) c.self.view_is
