use Rattle.std.proofs.Common.{◌<◌, ◌+◌, length, arith}
use Rattle.list_pages.specs.Pages.{joined, start_of, IsSpotOrEnd, IsEdge}
use Rattle.list_pages.proofs.Picks.{page-within}
use Rattle.list_pages.proofs.list.Pages.seek.Goals as goal

pub returns-clause-found : goal.returns-clause-found
returns-clause-found g c =
    let pages = c.self.inside.pages.pages in
    let p = c.edge-p.result.0 in
    let j = c.edge-p.result.1 in
    let s : IsSpotOrEnd pages p j = c.edge-p.ensures.spot in
    let e : IsEdge (g.P.Pick.picked c.args.pick.now) (joined pages) (start_of pages p + j) = c.edge-p.ensures.edge in
    let l : p < length pages = omega (arith, c.if-p-len.false, s.within, c.len.ensures) in
    rw (← c.self.view_is) (start_of pages p + j, e, page-within pages p j l (s.inside l), c.read.ensures)
