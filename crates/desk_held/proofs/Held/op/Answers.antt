use Rattle.std.proofs.Common.{sym, subst, ◌<◌, ◌∙◌, ap}
use Rattle.desk_ops.specs.Op.{IsLawful}
use Rattle.desk_ops.specs.OpSet.{size}
use Rattle.desk_ops.proofs.OpSets.{size-from_rising}
use Rattle.desk_ops.proofs.Lists.{each-at}
use Rattle.desk_held.specs.Holding.{Holding}
use Rattle.desk_held.proofs.Held.op.Goals as goal

pub returns-clause-lawful : goal.returns-clause-lawful
returns-clause-lawful g c =
    let ops = c.self.inside.ops.entries in
    subst IsLawful (sym c.entry.ensures) (each-at IsLawful ops c.args.i c.entry.result c.self.invariant.lawful
    (subst (λ n. c.args.i < n) (ap (λ (h : Holding). size h.ops) (sym c.self.view_is) ∙ size-from_rising ops c.self.invariant.rising) c.requires))
