use Rattle.std.proofs.Common.{◌<◌, length, arith}
use Rattle.list_pages.proofs.Picks.{page-fits, next-page}
use Rattle.list_pages.proofs.starts.find_starts.Goals as goal

pub overflow_add-start : goal.overflow_add-start
overflow_add-start g c =
    let pages = c.args.pages.now.pages in
    let l : c.loop-p.p < length pages = omega (arith, c.loop-p-test.true, c.len-p-end.ensures) in
    let n = c.len_of-start.ensures.len in
    let w = page-fits pages c.loop-p.p l in
    omega (arith, c.loop-p.invariant.start, c.requires)

pub loop-p-preserved : goal.loop-p-preserved
loop-p-preserved g c =
    let pages = c.args.pages.now.pages in
    let l : c.loop-p.p < length pages = omega (arith, c.loop-p-test.true, c.len-p-end.ensures) in
    let n = c.len_of-start.ensures.len in
    let m = next-page pages c.loop-p.p l in
    record { start = omega (arith, c.loop-p.invariant.start); starts = c.keep_start.ensures }
