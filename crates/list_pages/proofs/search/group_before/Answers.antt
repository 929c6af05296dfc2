use Rattle.std.proofs.Common.{◌≡◌, ◌+◌, ◌-◌, ◌*◌, ◌/◌, ◌<◌, ◌∙◌, ℕ, length, take, ap, sym, subst, arith}
use Rattle.std.specs.List.{count_by}
use Rattle.std.proofs.lemmas.List.{get_or_read}
use Rattle.list_pages.specs.Pages.{joined, start_of, group_at}
use Rattle.list_pages.proofs.Sums.{group-count, group-start, start-grows}
use Rattle.list_pages.proofs.search.group_before.Goals as goal

pub overflow_sub-end : goal.overflow_sub-end
overflow_sub-end g c =
    let pages = c.args.pages.now.pages in
    let h = c.args.at / 32 - 1 in
    let starts = c.args.groups.now.starts.items in
    let l : h < length starts = omega (arith, c.if-g-len-2.false, c.args.groups.now.starts.ok.0) in
    let q : 32 * h + 32 ≡ c.args.at = omega (arith, c.if-at-ne0.false, c.if-at-lt-GROUP.false) in
    let begin : c.index-start.result.now ≡ start_of pages (32 * h) = get_or_read starts h c.index-start.result.now l c.index-start.ensures 0 ∙ c.requires.groups.0.is h l in
    let up : start_of pages (32 * h + 32) ≡ start_of pages c.args.at = ap (λ (n : ℕ). start_of pages n) q in
    let m = start-grows pages (32 * h) 32 in
    omega (arith, c.requires.end, begin, up)

pub returns-clause-count : goal.returns-clause-count
returns-clause-count g c =
    let pages = c.args.pages.now.pages in
    let h = c.args.at / 32 - 1 in
    let starts = c.args.groups.now.starts.items in
    let w : h < length c.args.groups.now.sums.items = omega (arith, c.if-g-len.false, c.args.groups.now.sums.ok.0) in
    let l : h < length starts = omega (arith, c.if-g-len-2.false, c.args.groups.now.starts.ok.0) in
    let q : 32 * h + 32 ≡ c.args.at = omega (arith, c.if-at-ne0.false, c.if-at-lt-GROUP.false) in
    let r : 32 * h ≡ c.args.at - 32 = omega (arith, q) in
    let sums_up = g.S.Summary.sums_up in
    let t : sums_up c.index.result.now (joined (group_at pages h)) = subst (λ (z : _). sums_up z (joined (group_at pages h))) (sym c.index.ensures) (c.requires.groups.1.is h c.index.result.now w) in
    let begin : c.index-start.result.now ≡ start_of pages (32 * h) = get_or_read starts h c.index-start.result.now l c.index-start.ensures 0 ∙ c.requires.groups.0.is h l in
    let up : start_of pages c.args.at ≡ start_of pages (32 * h) + length (joined (group_at pages h)) = ap (λ (n : ℕ). start_of pages n) (sym q) ∙ group-start pages h in
    let len : length (joined (group_at pages h)) ≡ c.args.end - c.index-start.result.now = omega (arith, c.requires.end, begin, up) in
    let n = c.in-Some.ensures (joined (group_at pages h)) t len in
    let picks = g.P.Pick.picked c.args.pick.now in
    let count : count_by picks (joined (take c.args.at pages)) ≡ count_by picks (joined (take (c.args.at - 32) pages)) + count_by picks (joined (group_at pages h)) = ap (λ (n : ℕ). count_by picks (joined (take n pages))) (sym q) ∙ group-count picks pages h ∙ ap (λ (n : ℕ). count_by picks (joined (take n pages)) + count_by picks (joined (group_at pages h))) r in
    omega (arith, n, count)
