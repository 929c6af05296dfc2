use Rattle.std.proofs.Common.{◌≡◌, ◌≤◌, ◌∙◌, sym, ap, subst, length}
use Rattle.std.specs.List.{insert}
use Rattle.list_pages.specs.Pages.{IsEdge}
use Rattle.desk_ops.specs.Stamp.{before}
use Rattle.desk_seq.proofs.Entries.{map-insert}
use Rattle.desk_blocks.specs.Home.{Home}
use Rattle.desk_blocks.specs.Rank.{homes_of, IsRising, IsNoneOf, Known}
use Rattle.desk_blocks.proofs.Ranks.{rising-insert, length-homes, edge-rank}
use Rattle.desk_blocks.proofs.index.Index.put.Goals as goal

pub invariant_of-self : goal.invariant_of-self
invariant_of-self g c =
    let hs = c.self.inside.homes.entries in
    let put = c.insert_in_order.ensures.put in
    let home : Home = c.new.result in
    let edge : IsEdge (λ (h : Home). before h.stamp c.args.stamp) hs put.0 = put.1 in
    let absent : IsNoneOf c.args.stamp (homes_of hs) = subst (λ (v : Known). IsNoneOf c.args.stamp v.stamps) (sym c.self.view_is) c.requires.absent in
    let is : homes_of c.insert_in_order.new.self.entries ≡ insert (homes_of hs) put.0 c.args.stamp = ap homes_of put.2 ∙ map-insert (λ (h : Home). h.stamp) hs put.0 home ∙ ap (insert (homes_of hs) put.0) c.new.ensures in
    let up : IsRising (homes_of c.insert_in_order.new.self.entries) = rw is (rising-insert (homes_of hs) c.args.stamp put.0 c.self.invariant (edge-rank hs c.args.stamp put.0 c.self.invariant edge) absent) in
    up

pub returns-clause-put : goal.returns-clause-put
returns-clause-put g c =
    let hs = c.self.inside.homes.entries in
    let put = c.insert_in_order.ensures.put in
    let home : Home = c.new.result in
    let within : put.0 ≤ length (homes_of hs) = rw (length-homes hs) put.1.within in
    rw (← c.self.view_is) (put.0, within, ap homes_of put.2 ∙ map-insert (λ (h : Home). h.stamp) hs put.0 home ∙ ap (insert (homes_of hs) put.0) c.new.ensures)
