use Rattle.std.proofs.Common.{◌<◌, [], length, get_or, ap, refl, add-one, arith}
use Rattle.std.specs.List.{count_by}
use Rattle.list_pages.specs.Pages.{start_of, IsNth, IsShort}
use Rattle.list_pages.proofs.Cuts.{start-more, joined-past}
use Rattle.list_pages.proofs.Picks.{nth-joined, page-within, page-fits, count-page, count-start}
use Rattle.list_pages.proofs.Sums.{start-grows}
use Rattle.list_pages.proofs.search.nth_from.Goals as goal

pub overflow_add-result : goal.overflow_add-result
overflow_add-result g c =
    let pages = c.args.pages.now.pages in
    let l : c.loop-at.at < length pages = omega (arith, c.loop-at-test.true, c.len.ensures) in
    let h : IsNth (g.P.Pick.picked c.args.pick.now) (get_or pages c.loop-at.at []) 0 c.loop-at.left c.in-Ok.j = c.in-Ok.ensures.found in
    let w = page-within pages c.loop-at.at c.in-Ok.j l h.within in
    let i = c.loop-at.invariant.is in
    omega (arith, c.requires.fits)

pub returns-in-Ok-clause-found : goal.returns-in-Ok-clause-found
returns-in-Ok-clause-found g c =
    let pages = c.args.pages.now.pages in
    let picks = g.P.Pick.picked c.args.pick.now in
    let l : c.loop-at.at < length pages = omega (arith, c.loop-at-test.true, c.len.ensures) in
    let h : IsNth picks (get_or pages c.loop-at.at []) 0 c.loop-at.left c.in-Ok.j = c.in-Ok.ensures.found in
    let i = c.loop-at.invariant in
    let s = count-start picks pages c.args.p in
    let q = c.requires.start in
    rw (i.is, q) (nth-joined picks pages c.loop-at.at 0 c.loop-at.left c.in-Ok.j (start_of pages c.args.p) c.args.n l h (omega (arith, i.after, i.is)) (omega (arith, i.count)))

pub overflow_add-start : goal.overflow_add-start
overflow_add-start g c =
    let pages = c.args.pages.now.pages in
    let l : c.loop-at.at < length pages = omega (arith, c.loop-at-test.true, c.len.ensures) in
    let n = c.len_of-start.ensures.len in
    let w = page-fits pages c.loop-at.at l in
    let i = c.loop-at.invariant.is in
    omega (arith, c.requires.fits)

pub loop-at-preserved : goal.loop-at-preserved
loop-at-preserved g c =
    let pages = c.args.pages.now.pages in
    let picks = g.P.Pick.picked c.args.pick.now in
    let l : c.loop-at.at < length pages = omega (arith, c.loop-at-test.true, c.len.ensures) in
    let h : IsShort picks (get_or pages c.loop-at.at []) 0 c.loop-at.left c.in-Err.rest = c.in-Err.ensures.short in
    let n = c.len_of-start.ensures.len in
    let i = c.loop-at.invariant in
    let s = start-more pages c.loop-at.at l in
    let k = count-page picks pages c.loop-at.at l in
    rw add-one (record {
      low = omega (arith, i.low);
      within = omega arith;
      is = omega (arith, i.is);
      after = omega (arith, i.after);
      less = omega (arith, i.less, h.0);
      count = omega (arith, i.count, h.1);
    })

pub returns-clause-short : goal.returns-clause-short
returns-clause-short g c =
    let pages = c.args.pages.now.pages in
    let picks = g.P.Pick.picked c.args.pick.now in
    let i = c.loop-at.invariant in
    let s = count-start picks pages c.args.p in
    let a = ap (count_by picks) (joined-past pages c.loop-at.at (omega (arith, c.loop-at-test.false, c.len.ensures))) in
    let q = c.requires.start in
    (i.less, rw q (omega (arith, i.count)))

pub loop-at-preserved-in-Some : goal.loop-at-preserved-in-Some
loop-at-preserved-in-Some g c =
    let pages = c.args.pages.now.pages in
    let i = c.loop-at.invariant in
    let e = c.in-Some.ensures in
    let m = start-grows pages c.loop-at.at 32 in
    record {
      low = omega (arith, i.low);
      within = e.within refl;
      is = e.start;
      after = omega (arith, i.after, i.is, e.start);
      less = omega (arith, i.less, e.less);
      count = omega (arith, i.count, e.count);
    }
