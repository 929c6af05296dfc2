use Rattle.std.proofs.Common.{◌≡◌, ◌+◌, ◌-◌, ◌<◌, ◌≤◌, Bool, ℕ, zero, suc, List, [], length, get_or, take, arith}
use Rattle.std.specs.List.{count_by}
use Rattle.list_pages.specs.Pages.{joined, start_of}
use Rattle.list_pages.proofs.Cuts.{start-more}
use Rattle.list_pages.proofs.Picks.{count-page}
use Rattle.list_pages.proofs.search.page_before.Goals as goal

-- what page q adds to the pages before it
back : {X : Type 0} (picks : X → Bool) (pages : List (List X)) (at : ℕ) → at ≤ length pages → 0 < at → (start_of pages at ≡ start_of pages (at - 1) + length (get_or pages (at - 1) [])) × (count_by picks (joined (take at pages)) ≡ count_by picks (joined (take (at - 1) pages)) + count_by picks (get_or pages (at - 1) []))
back picks pages zero l p = absurd (omega arith)
back picks pages (suc q) l p = let e : suc q - 1 ≡ q = omega arith in rw e (start-more pages q (omega arith), count-page picks pages q (omega arith))

some : {X : Type 0} (picks : X → Bool) (pages : List (List X)) (at n before : ℕ) → before ≡ count_by picks (joined (take at pages)) → n < before → 0 < at
some picks pages zero n before e l = absurd (omega arith)
some picks pages (suc q) n before e l = omega arith

pub overflow_sub-start : goal.overflow_sub-start
overflow_sub-start g c =
    let i = c.loop-before.invariant in
    let b = back (g.P.Pick.picked c.args.pick.now) c.args.pages.now.pages c.loop-before.at i.within (some (g.P.Pick.picked c.args.pick.now) c.args.pages.now.pages c.loop-before.at c.args.n c.loop-before.before i.count (omega (arith, c.loop-before-test.true))) in
    omega (arith, i.is, b.0, c.len_of-start.ensures.len)

pub overflow_sub-before-in-loop-before-2 : goal.overflow_sub-before-in-loop-before-2
overflow_sub-before-in-loop-before-2 g c =
    let i = c.loop-before.invariant in
    let b = back (g.P.Pick.picked c.args.pick.now) c.args.pages.now.pages c.loop-before.at i.within (some (g.P.Pick.picked c.args.pick.now) c.args.pages.now.pages c.loop-before.at c.args.n c.loop-before.before i.count (omega (arith, c.loop-before-test.true))) in
    omega (arith, i.count, b.1, c.count_in-before.ensures)

pub loop-before-preserved : goal.loop-before-preserved
loop-before-preserved g c =
    let i = c.loop-before.invariant in
    let b = back (g.P.Pick.picked c.args.pick.now) c.args.pages.now.pages c.loop-before.at i.within (some (g.P.Pick.picked c.args.pick.now) c.args.pages.now.pages c.loop-before.at c.args.n c.loop-before.before i.count (omega (arith, c.loop-before-test.true))) in
    record {
      within = omega (arith, i.within);
      is = omega (arith, i.is, b.0, c.len_of-start.ensures.len);
      count = omega (arith, i.count, b.1, c.count_in-before.ensures);
    }
