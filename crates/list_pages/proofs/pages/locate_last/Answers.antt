use Rattle.std.proofs.Common.{◌≡◌, ◌<◌, ◌+◌, ◌-◌, [], ℕ, length, get_or, ap, arith}
use Rattle.list_pages.specs.Pages.{joined, start_of}
use Rattle.list_pages.proofs.Cuts.{joined-past}
use Rattle.list_pages.proofs.Picks.{next-page, page-fits}
use Rattle.list_pages.proofs.pages.locate_last.Goals as goal

pub overflow_sub-start : goal.overflow_sub-start
overflow_sub-start g c =
    let pages = c.args.pages.now.pages in
    let p : ℕ = c.len-count.result - 1 in
    let l : p < length pages = omega (arith, c.if-count-eq0.false, c.len-count.ensures) in
    let n = c.len_of.ensures.len in
    let f = page-fits pages p l in
    omega (arith, c.requires.len, n, f)

pub returns-else-i-start-clause-is : goal.returns-else-i-start-clause-is
returns-else-i-start-clause-is g c =
    let pages = c.args.pages.now.pages in
    let p : ℕ = c.len-count.result - 1 in
    let l : p < length pages = omega (arith, c.if-count-eq0.false, c.len-count.ensures) in
    let n = c.len_of.ensures.len in
    let next : start_of pages (p + 1) ≡ start_of pages p + length (get_or pages p []) = next-page pages p l in
    let end : start_of pages (p + 1) ≡ length (joined pages) = ap length (joined-past pages (p + 1) (omega (arith, c.len-count.ensures))) in
    omega (arith, c.requires.len, n, next, end, c.if-i-start.false)
