use Rattle.std.proofs.Common.{◌∙◌, ap, arith}
use Rattle.desk_ops.specs.OpSet.{in_order, from_rising, size}
use Rattle.desk_ops.proofs.OpSets.{in_order-from_rising, size-from_rising}
use Rattle.desk_held.proofs.Joins.{of_rising_list}
use Rattle.desk_held.proofs.Held.of_slots.Goals as goal

pub returns-clause-ops : goal.returns-clause-ops
returns-clause-ops g c = ap from_rising c.in-Ok.ensures ∙ of_rising_list c.args.slots.now (c.are_rising.ensures c.if-not-are_rising.false)

pub returns-clause-listed : goal.returns-clause-listed
returns-clause-listed g c = ap (λ xs. in_order (from_rising xs)) c.in-Ok.ensures ∙ in_order-from_rising c.args.slots.now (c.are_rising.ensures c.if-not-are_rising.false)

pub returns-clause-within : goal.returns-clause-within
returns-clause-within g c =
    let e = ap (λ xs. size (from_rising xs)) c.in-Ok.ensures ∙ size-from_rising c.args.slots.now (c.are_rising.ensures c.if-not-are_rising.false) in
    omega (arith, e)
