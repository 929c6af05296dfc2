use Rattle.std.proofs.Common.{◌<◌, [], length, get_or, arith}
use Rattle.list_pages.specs.Pages.{IsEdge}
use Rattle.list_pages.proofs.Picks.{edge-end, edge-joined}
use Rattle.list_pages.proofs.search.edge.Goals as goal

pub returns-then-p-len-clause-edge : goal.returns-then-p-len-clause-edge
returns-then-p-len-clause-edge g c = edge-end (g.P.Pick.picked c.args.pick.now) c.args.pages.now.pages c.edge_page-p.result c.requires c.edge_page-p.ensures (omega (arith, c.if-p-len.true, c.len.ensures))

pub returns-clause-spot : goal.returns-clause-spot
returns-clause-spot g c =
    let pages = c.args.pages.now.pages in
    let p = c.edge_page-p.result in
    let l : p < length pages = omega (arith, c.if-p-len.false, c.edge_page-p.ensures.within, c.len.ensures) in
    let i : IsEdge (g.P.Pick.picked c.args.pick.now) (get_or pages p []) c.edge_in.result = rw c.items.ensures at c.edge_in.ensures in
    let inside = (edge-joined (g.P.Pick.picked c.args.pick.now) pages p c.edge_in.result c.requires c.edge_page-p.ensures l i).0 in
    record { within = c.edge_page-p.ensures.within; inside = λ _. inside; end = λ z. absurd (omega arith) }

pub returns-clause-edge : goal.returns-clause-edge
returns-clause-edge g c =
    let pages = c.args.pages.now.pages in
    let p = c.edge_page-p.result in
    let l : p < length pages = omega (arith, c.if-p-len.false, c.edge_page-p.ensures.within, c.len.ensures) in
    let i : IsEdge (g.P.Pick.picked c.args.pick.now) (get_or pages p []) c.edge_in.result = rw c.items.ensures at c.edge_in.ensures in
    (edge-joined (g.P.Pick.picked c.args.pick.now) pages p c.edge_in.result c.requires c.edge_page-p.ensures l i).1
