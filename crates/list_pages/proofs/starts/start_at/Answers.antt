use Rattle.std.proofs.Common.{◌≡◌, ◌<◌, ◌+◌, length, arith}
use Rattle.list_pages.specs.Pages.{start_of}
use Rattle.list_pages.proofs.Picks.{page-fits, next-page}
use Rattle.list_pages.proofs.starts.start_at.Goals as goal

pub overflow_add-start : goal.overflow_add-start
overflow_add-start g c =
    let pages = c.args.pages.now.pages in
    let l : c.loop-at.at < length pages = omega (arith, c.requires.within) in
    let n = c.len_of-start.ensures.len in
    let w = page-fits pages c.loop-at.at l in
    omega (arith, c.loop-at.invariant, c.requires.fits)

pub loop-at-preserved : goal.loop-at-preserved
loop-at-preserved g c =
    let pages = c.args.pages.now.pages in
    let l : c.loop-at.at < length pages = omega (arith, c.requires.within) in
    let n = c.len_of-start.ensures.len in
    let m = next-page pages c.loop-at.at l in
    let r : c.loop-at.start + c.len_of-start.result ≡ start_of pages (c.loop-at.at + 1) = omega (arith, c.loop-at.invariant) in
    r
