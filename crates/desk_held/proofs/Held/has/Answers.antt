use Rattle.std.proofs.Common.{◌∙◌, ap, refl}
use Rattle.desk_ops.specs.OpSet.{has_op}
use Rattle.desk_ops.specs.OrderLaws.{op_tie}
use Rattle.desk_held.specs.Holding.{Holding}
use Rattle.desk_held.proofs.Edges.{has-at, has-none}
use Rattle.desk_held.proofs.Held.has.Goals as goal

pub returns-in-Some : goal.returns-in-Some
returns-in-Some g c =
    let f = c.in-Some.ensures.found in
    c.eq.ensures ∙ op_tie c.in-Some.first c.args.op.now
    ∙ has-at c.args.op.now c.self.inside.ops.entries c.self.invariant.rising f.0 f.1 c.in-Some.first f.2 f.3
    ∙ ap (λ (h : Holding). has_op h.ops c.args.op.now) c.self.view_is

pub returns-in-None : goal.returns-in-None
returns-in-None g c =
    has-none c.args.op.now c.self.inside.ops.entries c.self.invariant.rising _ (c.in-None.ensures.none refl) refl
    ∙ ap (λ (h : Holding). has_op h.ops c.args.op.now) c.self.view_is
