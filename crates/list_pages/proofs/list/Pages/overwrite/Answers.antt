use Rattle.std.proofs.Common.{◌≡◌, ◌+◌, ◌<◌, ◌∙◌, ap, sym, refl, length, get_or, arith}
use Rattle.std.proofs.lemmas.Bool.{true≢false}
use Rattle.std.proofs.lemmas.List.{get_or_read}
use Rattle.list_pages.specs.Pages.{joined, start_of, IsSpotOrEnd, IsEdge}
use Rattle.list_pages.proofs.Cuts.{end-is}
use Rattle.list_pages.proofs.Picks.{page-within}
use Rattle.list_pages.proofs.list.Pages.overwrite.Goals as goal

pub returns-then-p-len-clause-set : goal.returns-then-p-len-clause-set
returns-then-p-len-clause-set g c = λ z. absurd (true≢false (sym z))

pub returns-then-p-len-clause-none : goal.returns-then-p-len-clause-none
returns-then-p-len-clause-none g c = λ _.
    let pages = c.self.inside.pages.pages in
    let i = start_of pages c.edge-p.result.0 + c.edge-p.result.1 in
    let s : IsSpotOrEnd pages c.edge-p.result.0 c.edge-p.result.1 = c.edge-p.ensures.spot in
    let e : IsEdge (g.P.Pick.picked c.args.pick.now) (joined pages) i = c.edge-p.ensures.edge in
    let n = end-is pages c.edge-p.result.0 c.edge-p.result.1 s (omega (arith, c.len.ensures, c.if-p-len.true)) in
    rw (← c.self.view_is) (i, e, (λ w. absurd (omega (arith, w))), refl)

pub set-requires-clause-inside : goal.set-requires-clause-inside
set-requires-clause-inside g c =
    let pages = c.self.inside.pages.pages in
    let s : IsSpotOrEnd pages c.edge-p.result.0 c.edge-p.result.1 = c.edge-p.ensures.spot in
    s.inside (omega (arith, c.if-p-len.false, s.within, c.len.ensures))

pub returns-then-picks-clause-set : goal.returns-then-picks-clause-set
returns-then-picks-clause-set g c = λ _.
    let pages = c.self.inside.pages.pages in
    let p = c.edge-p.result.0 in
    let j = c.edge-p.result.1 in
    let i = start_of pages p + j in
    let s : IsSpotOrEnd pages p j = c.edge-p.ensures.spot in
    let e : IsEdge (g.P.Pick.picked c.args.pick.now) (joined pages) i = c.edge-p.ensures.edge in
    let l : p < length pages = omega (arith, c.if-p-len.false, s.within, c.len.ensures) in
    let w = page-within pages p j l (s.inside l) in
    let r : c.read.result ≡ get_or (joined pages) i c.read.result = c.read.ensures in
    rw (← c.self.view_is) (i, e, w, ap (g.Q.Pick.picked c.args.only.now) (sym (get_or_read (joined pages) i c.read.result w r c.args.x)) ∙ sym c.picks.ensures ∙ c.if-picks.true, c.set.ensures.set)

pub returns-then-picks-clause-none : goal.returns-then-picks-clause-none
returns-then-picks-clause-none g c = λ z. absurd (true≢false z)

pub returns-clause-set : goal.returns-clause-set
returns-clause-set g c = λ z. absurd (true≢false (sym z))

pub returns-clause-none : goal.returns-clause-none
returns-clause-none g c = λ _.
    let pages = c.self.inside.pages.pages in
    let p = c.edge-p.result.0 in
    let j = c.edge-p.result.1 in
    let i = start_of pages p + j in
    let s : IsSpotOrEnd pages p j = c.edge-p.ensures.spot in
    let e : IsEdge (g.P.Pick.picked c.args.pick.now) (joined pages) i = c.edge-p.ensures.edge in
    let r : c.read.result ≡ get_or (joined pages) i c.read.result = c.read.ensures in
    rw (← c.self.view_is) (i, e, (λ w. ap (g.Q.Pick.picked c.args.only.now) (sym (get_or_read (joined pages) i c.read.result w r c.args.x)) ∙ sym c.picks.ensures ∙ c.if-picks.false), refl)
