use Rattle.std.proofs.Common.{◌∙◌, sym, ap, subst}
use Rattle.std.specs.Prelude.{All}
use Rattle.std.specs.List.{AllByRecursion}
use Rattle.desk_ops.specs.Op.{IsLawful}
use Rattle.desk_ops.specs.OpSet.{no_ops, from_rising, with_all}
use Rattle.desk_ops.proofs.OpSets.{in_order-from_rising}
use Rattle.desk_held.specs.Holding.{Holding}
use Rattle.desk_held.proofs.Lacking.{listed-lawful}
use Rattle.desk_held.proofs.Held.joined.Goals as goal

pub of_slots-requires : goal.of_slots-requires
of_slots-requires g c =
    let held = c.self.inside.ops.entries in
    subst (All IsLawful) (sym c.deref.ensures.value)
    (listed-lawful no_ops (from_rising held) c.in-Ok.slots.items c.args.ops.now
    (subst (AllByRecursion IsLawful) (sym (in_order-from_rising held c.self.invariant.rising)) c.self.invariant.lawful)
    c.requires (c.in-Ok.ensures ∙ ap (λ (h : Holding). with_all h.ops c.args.ops.now) (sym c.self.view_is)))
