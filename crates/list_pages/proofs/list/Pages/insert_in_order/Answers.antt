use Rattle.std.proofs.Common.{◌+◌}
use Rattle.list_pages.specs.Pages.{joined, start_of, IsEdge}
use Rattle.list_pages.proofs.list.Pages.insert_in_order.Goals as goal

pub returns-clause-put : goal.returns-clause-put
returns-clause-put g c =
    let pages = c.self.inside.pages.pages in
    let p = c.edge-p.result.0 in
    let j = c.edge-p.result.1 in
    let e : IsEdge (g.P.Pick.picked c.args.pick.now) (joined pages) (start_of pages p + j) = c.edge-p.ensures.edge in
    rw (← c.self.view_is) (start_of pages p + j, e, c.put.ensures.put)
