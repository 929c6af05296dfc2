use Rattle.std.proofs.Common.{◌≡◌, ◌+◌, ◌-◌, [], ℕ, get_or, take, ap, arith}
use Rattle.std.specs.List.{count_by}
use Rattle.list_pages.specs.Pages.{joined, start_of, IsNth, IsShort}
use Rattle.list_pages.proofs.Picks.{if-ok, if-err, nth-joined, nth-later, short-page, page-within, page-fits, count-at, next-start, next-page}
use Rattle.list_pages.proofs.search.nth.Goals as goal

pub overflow_add-result : goal.overflow_add-result
overflow_add-result g c =
    let pages = c.args.pages.now.pages in
    let s = c.locate-p.ensures.spot in
    let h : IsNth (g.P.Pick.picked c.args.pick.now) (get_or pages c.locate-p.result.0 []) c.locate-p.result.1 c.args.n c.in-Ok.k = rw c.items.ensures at c.in-Ok.ensures.found in
    let w = page-within pages c.locate-p.result.0 c.in-Ok.k s.within h.within in
    omega (arith, s.is, c.requires.fits)

pub overflow_add-from : goal.overflow_add-from
overflow_add-from g c =
    let pages = c.args.pages.now.pages in
    let s = c.locate-p.ensures.spot in
    let n = c.len_of.ensures.len in
    let w = page-fits pages c.locate-p.result.0 s.within in
    omega (arith, s.is, c.requires.fits)

pub nth_from-requires-in-Err-clause-start : goal.nth_from-requires-in-Err-clause-start
nth_from-requires-in-Err-clause-start g c = next-start c.args.pages.now.pages c.args.from c.locate-p.result.0 c.locate-p.result.1 c.len_of.result c.locate-p.ensures.spot c.len_of.ensures.len

pub returns-in-Ok-clause-found : goal.returns-in-Ok-clause-found
returns-in-Ok-clause-found g c =
    let pages = c.args.pages.now.pages in
    let picks = g.P.Pick.picked c.args.pick.now in
    let s = c.locate-p.ensures.spot in
    let p = c.locate-p.result.0 in
    let j = c.locate-p.result.1 in
    let h : IsNth picks (get_or pages p []) j c.args.n c.in-Ok.k = rw c.items.ensures at c.in-Ok.ensures.found in
    let q : c.args.from - j + c.in-Ok.k ≡ start_of pages p + c.in-Ok.k = omega (arith, s.is) in
    let f = ap (λ (m : ℕ). count_by picks (take m (joined pages))) s.is in
    let t = count-at picks pages p j s.within (omega (arith, s.inside)) in
    rw q (nth-joined picks pages p j c.args.n c.in-Ok.k c.args.from c.args.n s.within h (omega (arith, s.is, h.after)) (omega arith))

pub returns-in-Err-clause-found : goal.returns-in-Err-clause-found
returns-in-Err-clause-found g c =
    let pages = c.args.pages.now.pages in
    let picks = g.P.Pick.picked c.args.pick.now in
    let s = c.locate-p.ensures.spot in
    let p = c.locate-p.result.0 in
    let j = c.locate-p.result.1 in
    let h : IsShort picks (get_or pages p []) j c.args.n c.in-Err.left = rw c.items.ensures at c.in-Err.ensures.short in
    let start = next-start pages c.args.from p j c.len_of.result s c.len_of.ensures.len in
    let up = next-page pages p s.within in
    let f = ap (λ (m : ℕ). count_by picks (take m (joined pages))) s.is in
    let t = short-page picks pages p j c.args.n c.in-Err.left s.within (omega (arith, s.inside)) h in
    if-ok c.nth_from-in-Err.result _ _ (λ place r. nth-later picks (joined pages) c.args.from (start_of pages (p + 1)) c.in-Err.left c.args.n place (rw start at r) (omega (arith, s.is, s.inside)) (omega arith)) c.nth_from-in-Err.ensures.found

pub returns-in-Err-clause-short : goal.returns-in-Err-clause-short
returns-in-Err-clause-short g c =
    let pages = c.args.pages.now.pages in
    let picks = g.P.Pick.picked c.args.pick.now in
    let s = c.locate-p.ensures.spot in
    let p = c.locate-p.result.0 in
    let j = c.locate-p.result.1 in
    let h : IsShort picks (get_or pages p []) j c.args.n c.in-Err.left = rw c.items.ensures at c.in-Err.ensures.short in
    let start = next-start pages c.args.from p j c.len_of.result s c.len_of.ensures.len in
    let f = ap (λ (m : ℕ). count_by picks (take m (joined pages))) s.is in
    let t = short-page picks pages p j c.args.n c.in-Err.left s.within (omega (arith, s.inside)) h in
    if-err c.nth_from-in-Err.result _ _ (λ (left : ℕ) r. (let q : IsShort picks (joined pages) (start_of pages (p + 1)) c.in-Err.left left = rw start at r in (omega (arith, q.0, h.0), omega (arith, q.1)))) c.nth_from-in-Err.ensures.short
