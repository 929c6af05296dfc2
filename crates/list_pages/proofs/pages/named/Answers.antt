use Rattle.std.proofs.Common.{◌≡◌, ◌<◌, ◌+◌, length, get_or, arith}
use Rattle.list_pages.specs.Pages.{start_of}
use Rattle.list_pages.proofs.Cuts.{spot, spot-stretch}
use Rattle.list_pages.proofs.Picks.{half-some}
use Rattle.list_pages.proofs.pages.named.Goals as goal

pub returns : goal.returns
returns g c =
    let pages = c.args.pages.now.pages in
    let p = get_or c.args.order.now c.args.name 0 in
    let l : p < length pages = omega (arith, c.if-p-len.false, c.len.ensures) in
    let i : start_of pages p + 0 ≡ c.start_at.result = omega (arith, c.start_at.ensures) in
    rw (← i) (spot-stretch pages (start_of pages p + 0) p 0 c.items.result.now (spot pages p 0 l (half-some pages p c.requires.half l)) c.items.ensures)
