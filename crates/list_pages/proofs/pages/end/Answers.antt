use Rattle.std.proofs.Common.{◌-◌, arith}
use Rattle.list_pages.proofs.Cuts.{closed-last, end-gap}
use Rattle.list_pages.proofs.pages.end.Goals as goal

pub returns-then-len-eq-FULL-clause-closed : goal.returns-then-len-eq-FULL-clause-closed
returns-then-len-eq-FULL-clause-closed g c = λ _.
    let pages = c.args.pages.now.pages in
    let n = c.len_of-len.ensures.len in
    closed-last pages (c.len-count.result - 1) (omega (arith, c.len-count.ensures)) (omega (arith, c.if-len-eq-FULL.true))

pub returns-else-len-eq-FULL-clause-gap : goal.returns-else-len-eq-FULL-clause-gap
returns-else-len-eq-FULL-clause-gap g c =
    let pages = c.args.pages.now.pages in
    let n = c.len_of-len.ensures.len in
    rw n (end-gap pages (c.len-count.result - 1) (omega (arith, c.len-count.ensures)) (omega (arith, c.if-len-eq-FULL.false, c.len_of-len.ensures.most)))
