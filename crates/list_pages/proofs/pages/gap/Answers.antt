use Rattle.std.proofs.Common.{◌≡◌, ◌+◌, ap, length, get_or, [], arith}
use Rattle.list_pages.specs.Pages.{start_of}
use Rattle.list_pages.proofs.Cuts.{spot, spot-gap, cut-joined, cut-length, cut-half, gap-lower, gap-upper}
use Rattle.list_pages.proofs.Kept.{take-cut}
use Rattle.list_pages.proofs.pages.gap.Goals as goal

pub returns-then-len_of-lt-FULL-clause-gap : goal.returns-then-len_of-lt-FULL-clause-gap
returns-then-len_of-lt-FULL-clause-gap g c =
    let pages = c.args.pages.now.pages in
    let s = spot pages c.args.p c.args.j c.requires.within c.requires.inside in
    spot-gap pages (start_of pages c.args.p + c.args.j) c.args.p c.args.j s (omega (arith, c.if-len_of-lt-FULL.true, c.len_of.ensures.len))

pub returns-then-j-le-HALF-clause-gap : goal.returns-then-j-le-HALF-clause-gap
returns-then-j-le-HALF-clause-gap g c =
    let pages = c.args.pages.now.pages in
    let s = spot pages c.args.p c.args.j c.requires.within c.requires.inside in
    let f : length (get_or c.args.pages.now.pages c.args.p []) ≡ 256 = omega (arith, c.len_of.ensures.len, c.len_of.ensures.most, c.if-len_of-lt-FULL.false) in
    rw c.cut-next.ensures.cut (gap-lower pages (start_of pages c.args.p + c.args.j) c.args.p c.args.j s f c.if-j-le-HALF.true)

pub returns-then-j-le-HALF-clause-same : goal.returns-then-j-le-HALF-clause-same
returns-then-j-le-HALF-clause-same g c = rw c.cut-next.ensures.cut (cut-joined c.args.pages.now.pages c.args.p)

pub returns-then-j-le-HALF-clause-half : goal.returns-then-j-le-HALF-clause-half
returns-then-j-le-HALF-clause-half g c =
    let f : length (get_or c.args.pages.now.pages c.args.p []) ≡ 256 = omega (arith, c.len_of.ensures.len, c.len_of.ensures.most, c.if-len_of-lt-FULL.false) in
    rw c.cut-next.ensures.cut (cut-half c.args.pages.now.pages c.args.p c.requires.half c.requires.within f)

pub returns-else-j-le-HALF-clause-gap : goal.returns-else-j-le-HALF-clause-gap
returns-else-j-le-HALF-clause-gap g c =
    let pages = c.args.pages.now.pages in
    let s = spot pages c.args.p c.args.j c.requires.within c.requires.inside in
    let f : length (get_or c.args.pages.now.pages c.args.p []) ≡ 256 = omega (arith, c.len_of.ensures.len, c.len_of.ensures.most, c.if-len_of-lt-FULL.false) in
    rw (c.cut-next.ensures.cut, c.cut-next.ensures.next) (gap-upper pages (start_of pages c.args.p + c.args.j) c.args.p c.args.j s f (omega (arith, c.if-j-le-HALF.false)))

pub returns-else-j-le-HALF-clause-same : goal.returns-else-j-le-HALF-clause-same
returns-else-j-le-HALF-clause-same g c = rw c.cut-next.ensures.cut (cut-joined c.args.pages.now.pages c.args.p)

pub returns-else-j-le-HALF-clause-half : goal.returns-else-j-le-HALF-clause-half
returns-else-j-le-HALF-clause-half g c =
    let f : length (get_or c.args.pages.now.pages c.args.p []) ≡ 256 = omega (arith, c.len_of.ensures.len, c.len_of.ensures.most, c.if-len_of-lt-FULL.false) in
    rw c.cut-next.ensures.cut (cut-half c.args.pages.now.pages c.args.p c.requires.half c.requires.within f)

pub returns-then-j-le-HALF-clause-count : goal.returns-then-j-le-HALF-clause-count
returns-then-j-le-HALF-clause-count g c =
    let n = ap length c.cut-next.ensures.cut in
    let m = cut-length c.args.pages.now.pages c.args.p c.requires.within in
    omega (arith, n, m, c.cut-next.ensures.free)

pub returns-else-j-le-HALF-clause-count : goal.returns-else-j-le-HALF-clause-count
returns-else-j-le-HALF-clause-count g c =
    let n = ap length c.cut-next.ensures.cut in
    let m = cut-length c.args.pages.now.pages c.args.p c.requires.within in
    omega (arith, n, m, c.cut-next.ensures.free)

pub returns-then-j-le-HALF-clause-before : goal.returns-then-j-le-HALF-clause-before
returns-then-j-le-HALF-clause-before g c = rw c.cut-next.ensures.cut (take-cut c.args.pages.now.pages c.args.p)

pub returns-else-j-le-HALF-clause-before : goal.returns-else-j-le-HALF-clause-before
returns-else-j-le-HALF-clause-before g c = rw c.cut-next.ensures.cut (take-cut c.args.pages.now.pages c.args.p)
