use Rattle.std.proofs.Common.{◌≡◌, ◌-◌, ℕ, take, ap, arith, ◌∙◌, sym}
use Rattle.std.specs.List.{count_by}
use Rattle.list_pages.specs.Pages.{joined, IsShort}
use Rattle.list_pages.proofs.Picks.{nth-all, nth-later, count-start, if-ok, if-err}
use Rattle.list_pages.proofs.search.nth_from_end.Goals as goal

pub returns-clause-found : goal.returns-clause-found
returns-clause-found g c =
    let pages = c.args.pages.now.pages in
    let picks = g.P.Pick.picked c.args.pick.now in
    let e = c.page_before-p.ensures in
    let s = count-start picks pages c.page_before-p.result.0 in
    let t : count_by picks (take c.page_before-p.result.1 (joined pages)) ≡ c.page_before-p.result.2 = ap (λ (m : ℕ). count_by picks (take m (joined pages))) e.start ∙ s ∙ sym e.count in
    if-ok c.nth_from.result _ _ (λ place r. nth-later picks (joined pages) 0 c.page_before-p.result.1 (c.args.n - c.page_before-p.result.2) c.args.n place r (omega arith) (omega (arith, t, e.few))) c.nth_from.ensures.found

pub returns-clause-short : goal.returns-clause-short
returns-clause-short g c =
    let pages = c.args.pages.now.pages in
    let picks = g.P.Pick.picked c.args.pick.now in
    let e = c.page_before-p.ensures in
    let s = count-start picks pages c.page_before-p.result.0 in
    let t : count_by picks (take c.page_before-p.result.1 (joined pages)) ≡ c.page_before-p.result.2 = ap (λ (m : ℕ). count_by picks (take m (joined pages))) e.start ∙ s ∙ sym e.count in
    if-err c.nth_from.result _ _ (λ (left : ℕ) r. (let q : IsShort picks (joined pages) c.page_before-p.result.1 (c.args.n - c.page_before-p.result.2) left = r in (omega (arith, q.0), omega (arith, q.1, t, e.few)))) c.nth_from.ensures.short

pub returns-then-n-len-clause-found : goal.returns-then-n-len-clause-found
returns-then-n-len-clause-found g c =
    let pages = c.args.pages.now.pages in
    let picks = g.P.Pick.picked c.args.pick.now in
    nth-all picks (joined pages) c.args.n (omega (arith, c.requires.len, c.requires.all, c.if-all-len.true)) (omega (arith, c.requires.len, c.if-n-len.true))
