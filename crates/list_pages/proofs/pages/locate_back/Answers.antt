use Rattle.std.proofs.Common.{◌<◌, ℕ, zero, suc, List, arith}
use Rattle.list_pages.specs.Pages.{start_of}
use Rattle.list_pages.proofs.Picks.{next-page, page-back}
use Rattle.list_pages.proofs.pages.locate_back.Goals as goal

some : {X : Type 0} (pages : List (List X)) (at i : ℕ) → i < start_of pages at → 0 < at
some pages zero i b = absurd (omega (arith, b))
some pages (suc q) i b = omega arith

pub overflow_sub-start : goal.overflow_sub-start
overflow_sub-start g c =
    let b = page-back c.args.pages.now.pages c.args.behind c.requires.within (some c.args.pages.now.pages c.args.behind c.args.i (omega (arith, c.requires.end, c.requires.before))) in
    omega (arith, c.requires.end, b.2, c.len_of.ensures.len)

pub loop-start-init : goal.loop-start-init
loop-start-init g c =
    let pages = c.args.pages.now.pages in
    let b = page-back pages c.args.behind c.requires.within (some pages c.args.behind c.args.i (omega (arith, c.requires.end, c.requires.before))) in
    record {
      within = b.1;
      is = omega (arith, c.requires.end, b.2, c.len_of.ensures.len);
      before = rw b.0 (omega (arith, c.requires.end, c.requires.before));
    }

pub overflow_sub-start-in-loop-start : goal.overflow_sub-start-in-loop-start
overflow_sub-start-in-loop-start g c =
    let i = c.loop-start.invariant in
    let b = page-back c.args.pages.now.pages c.loop-start.p (omega (arith, i.within)) (some c.args.pages.now.pages c.loop-start.p c.args.i (omega (arith, i.is, c.loop-start-test.true))) in
    omega (arith, i.is, b.2, c.len_of-start.ensures.len)

pub loop-start-preserved : goal.loop-start-preserved
loop-start-preserved g c =
    let i = c.loop-start.invariant in
    let b = page-back c.args.pages.now.pages c.loop-start.p (omega (arith, i.within)) (some c.args.pages.now.pages c.loop-start.p c.args.i (omega (arith, i.is, c.loop-start-test.true))) in
    record {
      within = b.1;
      is = omega (arith, i.is, b.2, c.len_of-start.ensures.len);
      before = rw b.0 (omega (arith, i.is, c.loop-start-test.true));
    }

pub returns-clause-spot : goal.returns-clause-spot
returns-clause-spot g c =
    let pages = c.args.pages.now.pages in
    let i = c.loop-start.invariant in
    let t = next-page pages c.loop-start.p i.within in
    record {
      within = omega (arith, i.within);
      inside = λ _. omega (arith, i.is, i.before, t, c.loop-start-test.false);
      end = λ l. absurd (omega (arith, l, i.within));
    }
