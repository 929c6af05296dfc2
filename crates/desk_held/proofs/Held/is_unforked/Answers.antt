use Rattle.std.proofs.Common.{◌∙◌, sym, subst}
use Rattle.desk_ops.specs.Held.{IsUnforked}
use Rattle.desk_held.specs.Holding.{Holding}
use Rattle.desk_held.proofs.Rises.{rise-unforked}
use Rattle.desk_held.proofs.Held.is_unforked.Goals as goal

pub returns : goal.returns
returns g c =
    let kept = c.self.invariant in
    let reported = rise-unforked c.self.inside.ops.entries kept.rising kept.lawful in (
      λ up. subst (λ (h : Holding). IsUnforked h.ops) c.self.view_is (reported.0 (sym c.all_rise.ensures ∙ up)),
      λ u. c.all_rise.ensures ∙ reported.1 (subst (λ (h : Holding). IsUnforked h.ops) (sym c.self.view_is) u),
    )
