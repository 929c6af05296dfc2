use Rattle.std.proofs.Common.{◌+◌, ◌*◌, ◌<◌, [], length, get_or, take, drop, arith}
use Rattle.std.proofs.lemmas.List.{get_or_default}
use Rattle.list_pages.specs.Pages.{joined}
use Rattle.list_pages.proofs.Sums.{sum-next, sum-fits}
use Rattle.list_pages.proofs.groups.sum_of.Goals as goal

pub loop-k-preserved : goal.loop-k-preserved
loop-k-preserved g c =
    let pages = c.args.pages.now.pages in
    let k = c.loop-k.k in
    let page = get_or pages (32 * c.args.g + k) [] in
    let l : 32 * c.args.g + k < length pages = omega (arith, c.requires.within, c.loop-k-test.true) in
    let fits = sum-fits pages c.args.g k page l (get_or_default pages (32 * c.args.g + k) [] page l) c.requires.fits in
    sum-next g.S.Summary.sums_up pages c.args.g k page c.join-sum.result l (get_or_default pages (32 * c.args.g + k) [] page l) (c.join-sum.ensures (joined (take k (drop (32 * c.args.g) pages))) page fits c.loop-k.invariant c.summary.ensures)
