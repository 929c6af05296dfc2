use Rattle.std.proofs.Common.{◌≡◌, ◌+◌, ◌*◌, ◌/◌, ◌<◌, ◌∙◌, ℕ, length, take, ap, sym, subst, arith}
use Rattle.std.specs.List.{count_by}
use Rattle.std.proofs.lemmas.List.{get_or_read}
use Rattle.list_pages.specs.Pages.{joined, start_of, group_at}
use Rattle.list_pages.proofs.Sums.{group-count, group-start}
use Rattle.list_pages.proofs.search.pass.Goals as goal

pub returns-then-count-n-clause-within : goal.returns-then-count-n-clause-within
returns-then-count-n-clause-within g c = λ _.
    let w : c.args.at / 32 < length c.args.groups.now.sums.items = omega (arith, c.if-g-len.false, c.args.groups.now.sums.ok.0) in
    let a = c.requires.1.within (c.args.at / 32) w in
    omega (arith, c.if-at-ne0.false)

pub returns-then-count-n-clause-start : goal.returns-then-count-n-clause-start
returns-then-count-n-clause-start g c =
    let k = c.args.at / 32 + 1 in
    let starts = c.args.groups.now.starts.items in
    let l : k < length starts = omega (arith, c.if-len-g.false, c.args.groups.now.starts.ok.0) in
    let q : 32 * k ≡ c.args.at + 32 = omega (arith, c.if-at-ne0.false) in
    get_or_read starts k c.index-next.result.now l c.index-next.ensures 0 ∙ c.requires.0.is k l ∙ ap (λ (n : ℕ). start_of c.args.pages.now.pages n) q

pub returns-then-count-n-clause-count : goal.returns-then-count-n-clause-count
returns-then-count-n-clause-count g c =
    let pages = c.args.pages.now.pages in
    let h = c.args.at / 32 in
    let starts = c.args.groups.now.starts.items in
    let w : h < length c.args.groups.now.sums.items = omega (arith, c.if-g-len.false, c.args.groups.now.sums.ok.0) in
    let l : h < length starts = omega (arith, c.if-len-g.false, c.args.groups.now.starts.ok.0) in
    let q : 32 * h ≡ c.args.at = omega (arith, c.if-at-ne0.false) in
    let sums_up = g.S.Summary.sums_up in
    let t : sums_up c.index.result.now (joined (group_at pages h)) = subst (λ (z : _). sums_up z (joined (group_at pages h))) (sym c.index.ensures) (c.requires.1.is h c.index.result.now w) in
    let begin : c.index-2.result.now ≡ start_of pages (32 * h) = get_or_read starts h c.index-2.result.now l c.index-2.ensures 0 ∙ c.requires.0.is h l in
    let next : c.index-next.result.now ≡ start_of pages (c.args.at + 32) = returns-then-count-n-clause-start g c in
    let up : start_of pages (c.args.at + 32) ≡ start_of pages (32 * h) + length (joined (group_at pages h)) = ap (λ (n : ℕ). start_of pages (n + 32)) (sym q) ∙ group-start pages h in
    let len : length (joined (group_at pages h)) ≡ c.saturating_sub.result = omega (arith, c.saturating_sub.ensures, begin, next, up) in
    let n = c.in-Some.ensures (joined (group_at pages h)) t len in
    let picks = g.P.Pick.picked c.args.pick.now in
    let count : count_by picks (joined (take (c.args.at + 32) pages)) ≡ count_by picks (joined (take c.args.at pages)) + count_by picks (joined (group_at pages h)) = ap (λ (n : ℕ). count_by picks (joined (take (n + 32) pages))) (sym q) ∙ group-count picks pages h ∙ ap (λ (n : ℕ). count_by picks (joined (take n pages)) + count_by picks (joined (group_at pages h))) q in
    omega (arith, c.if-count-n.true, n, count)
