use Rattle.std.proofs.Common.{◌<◌, length, add-one, arith}
use Rattle.list_pages.proofs.Cuts.{start-more}
use Rattle.list_pages.proofs.pages.locate_on.Goals as goal

pub loop-p-preserved : goal.loop-p-preserved
loop-p-preserved g c =
    let pages = c.args.pages.now.pages in
    let w : c.loop-p.p < length pages = omega (arith, c.loop-p-test.true, c.len-count.ensures) in
    let s = start-more pages c.loop-p.p w in
    rw add-one (record { within = omega arith; is = omega arith })
