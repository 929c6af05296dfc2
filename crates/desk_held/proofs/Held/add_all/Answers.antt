use Rattle.std.proofs.Common.{◌≡◌, ◌∙◌, ap, sym}
use Rattle.desk_ops.specs.OpSet.{no_ops, with_all}
use Rattle.desk_held.specs.Holding.{Holding}
use Rattle.desk_held.proofs.Joins.{none_held}
use Rattle.desk_held.proofs.Held.add_all.Goals as goal

pub returns-clause-ok : goal.returns-clause-ok
returns-clause-ok g c =
    let none : c.args.self.now.ops ≡ no_ops = none_held c.args.self.now.ops (c.is_empty.ensures.0 c.if-is_empty.true) in
    ap (λ (h : Holding). h.ops) c.drop.view_is ∙ c.in-Some.ensures ∙ ap (λ h. with_all h c.args.ops.now) (sym none)
