use Rattle.std.proofs.Common.{◌∙◌, ap, sym, refl}
use Rattle.desk_ops.specs.Stamp.{same}
use Rattle.desk_ops.specs.Held.{is_borne, is_borne_in}
use Rattle.desk_ops.proofs.OpSets.{in_order-from_rising}
use Rattle.desk_held.specs.Holding.{Holding}
use Rattle.desk_held.proofs.Edges.{at-borne, none-borne}
use Rattle.desk_held.proofs.Held.holds.Goals as goal

pub returns-in-Some : goal.returns-in-Some
returns-in-Some g c =
    let ops = c.self.inside.ops.entries in
    let s = c.args.stamp in
    let f = c.in-Some.ensures.found in
    c.is_same.ensures ∙ ap (λ t. same t s) c.stamp.ensures
    ∙ at-borne s ops c.self.invariant.rising f.0 f.1 c.in-Some.first f.2 f.3
    ∙ ap (λ os. is_borne os s) (sym (in_order-from_rising ops c.self.invariant.rising))
    ∙ ap (λ (h : Holding). is_borne_in h.ops s) c.self.view_is

pub returns-in-None : goal.returns-in-None
returns-in-None g c =
    let ops = c.self.inside.ops.entries in
    let s = c.args.stamp in
    none-borne s ops c.self.invariant.rising _ (c.in-None.ensures.none refl) refl
    ∙ ap (λ os. is_borne os s) (sym (in_order-from_rising ops c.self.invariant.rising))
    ∙ ap (λ (h : Holding). is_borne_in h.ops s) c.self.view_is
