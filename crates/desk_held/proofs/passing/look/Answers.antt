use Rattle.std.proofs.Common.{◌≡◌, ◌<◌, ◌+◌, ◌∙◌, get_or, length, sym, subst, arith}
use Rattle.desk_ops.specs.declared.op.Op.{Op}
use Rattle.desk_ops.specs.OrderLaws.{op_tie}
use Rattle.desk_held.proofs.Edges.{has-at, has-none}
use Rattle.desk_held.proofs.Stretches.{part-at}
use Rattle.desk_held.proofs.passing.look.Goals as goal

pub returns-then-at-part-clause-held : goal.returns-then-at-part-clause-held
returns-then-at-part-clause-held g c =
    has-none c.args.op.now c.args.ops.now.entries c.requires.rising (c.onward-start.result.0 + c.onward-start.result.2) c.onward-start.ensures.edge (c.onward-start.ensures.inside c.if-at-part.true)

pub returns-clause-held : goal.returns-clause-held
returns-clause-held g c =
    let ops = c.args.ops.now.entries in
    let part = c.onward-start.result.1.now in
    let start = c.onward-start.result.0 in
    let at = c.onward-start.result.2 in
    let x : Op = c.index-part-at.result in
    let p = c.onward-start.ensures.part in
    let y : Op = c.op-found.result in
    let lt : start + at < length ops = omega (arith, p.fits, c.if-at-part.false) in
    let is : x ≡ get_or ops (start + at) x = c.index-part-at.is ∙ part-at ops part start at x p.is c.if-at-part.false in
    c.eq.ensures ∙ op_tie y c.args.op.now ∙ has-at c.args.op.now ops c.requires.rising (start + at) c.onward-start.ensures.edge y lt (subst (λ (o : Op). o ≡ get_or ops (start + at) o) (sym c.op-found.ensures) is)
