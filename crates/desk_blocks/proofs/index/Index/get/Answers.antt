use Rattle.std.proofs.Common.{◌≡◌, ◌<◌, ◌∙◌, sym, ap, subst, length, get_or, arith, refl}
use Rattle.list_pages.specs.Pages.{IsEdge}
use Rattle.desk_ops.specs.declared.op.Stamp.{Stamp}
use Rattle.desk_ops.specs.Stamp.{before, same, head}
use Rattle.desk_ops.proofs.Stamps.{same-true}
use Rattle.desk_blocks.specs.Home.{Home}
use Rattle.desk_blocks.specs.Rank.{homes_of, IsNoneOf, Known}
use Rattle.desk_blocks.proofs.Ranks.{length-homes, edge-rank, none-by_rank, home-at}
use Rattle.desk_blocks.proofs.index.Index.get.Goals as goal

pub returns-in_default-clause-none : goal.returns-in_default-clause-none
returns-in_default-clause-none g c = λ _.
    let hs = c.self.inside.homes.entries in
    let edge : IsEdge (λ (h : Home). before h.stamp c.args.stamp) hs (length hs) = c.in_default.ensures.none refl in
    let len = length-homes hs in
    let none : IsNoneOf c.args.stamp (homes_of hs) = none-by_rank (homes_of hs) c.args.stamp (length hs) c.self.invariant (edge-rank hs c.args.stamp (length hs) c.self.invariant edge) (λ w. absurd (omega arith)) in
    subst (λ (v : Known). IsNoneOf c.args.stamp v.stamps) c.self.view_is none

pub returns-then-is_same-clause-some : goal.returns-then-is_same-clause-some
returns-then-is_same-clause-some g c = λ _.
    let hs = c.self.inside.homes.entries in
    let f = c.in-Some.ensures.found in
    let at : get_or (homes_of hs) f.0 head ≡ c.args.stamp = home-at hs f.0 c.in-Some.home f.2 ∙ ap (λ (h : Home). h.stamp) (sym f.3) ∙ same-true c.in-Some.home.stamp c.args.stamp (ap (λ (s : Stamp). same s c.args.stamp) (sym c.stamp.ensures) ∙ sym c.is_same.ensures ∙ c.if-is_same.true) in
    let within : f.0 < length (homes_of hs) = rw (length-homes hs) f.2 in
    rw (← c.self.view_is) (f.0, within, at)

pub returns-else-is_same-clause-none : goal.returns-else-is_same-clause-none
returns-else-is_same-clause-none g c = λ _.
    let hs = c.self.inside.homes.entries in
    let f = c.in-Some.ensures.found in
    let edge : IsEdge (λ (h : Home). before h.stamp c.args.stamp) hs f.0 = f.1 in
    let none : IsNoneOf c.args.stamp (homes_of hs) = none-by_rank (homes_of hs) c.args.stamp f.0 c.self.invariant (edge-rank hs c.args.stamp f.0 c.self.invariant edge)
    (λ w. ap (λ (s : Stamp). same s c.args.stamp) (home-at hs f.0 c.in-Some.home f.2 ∙ ap (λ (h : Home). h.stamp) (sym f.3) ∙ sym c.stamp.ensures) ∙ sym c.is_same.ensures ∙ c.if-is_same.false) in
    subst (λ (v : Known). IsNoneOf c.args.stamp v.stamps) c.self.view_is none
