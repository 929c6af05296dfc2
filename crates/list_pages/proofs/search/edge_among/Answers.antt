use Rattle.std.proofs.Common.{◌≡◌, ◌<◌, ◌-◌, ◌∙◌, [], ℕ, length, get_or, ap, sym, arith}
use Rattle.std.proofs.lemmas.List.{get_or_default}
use Rattle.list_pages.specs.Pages.{ends_in}
use Rattle.list_pages.proofs.Picks.{half-some, ends-read}
use Rattle.list_pages.proofs.search.edge_among.Goals as goal

pub last-requires-clause-some : goal.last-requires-clause-some
last-requires-clause-some g c =
    let pages = c.args.pages.now.pages in
    let k : ℕ = c.place-place.result in
    let l : k < length pages = omega (arith, c.place-place.ensures.high, c.loop-probe.invariant.high) in
    half-some pages k c.requires l

pub loop-probe-preserved-then-picks : goal.loop-probe-preserved-then-picks
loop-probe-preserved-then-picks g c =
    let pages = c.args.pages.now.pages in
    let picks = g.P.Pick.picked c.args.pick.now in
    let k : ℕ = c.place-place.result in
    let l : k < length pages = omega (arith, c.place-place.ensures.high, c.loop-probe.invariant.high) in
    let e = c.rise.ensures in
    let q : c.rise.new.self.low - 1 ≡ k = omega (arith, e.low) in
    record {
      low = omega (arith, e.low, e.high, c.place-place.ensures.high);
      high = omega (arith, e.high, c.loop-probe.invariant.high);
      below = λ d _. ap (λ (n : ℕ). ends_in picks (get_or pages n d)) q ∙ ends-read picks pages k (get_or pages k []) d c.last.result c.requires l (get_or_default pages k [] (get_or pages k []) l) c.last.ensures ∙ sym c.picks.ensures ∙ c.if-picks.true;
      stops = rw e.high c.loop-probe.invariant.stops;
    }

pub loop-probe-preserved : goal.loop-probe-preserved
loop-probe-preserved g c =
    let pages = c.args.pages.now.pages in
    let picks = g.P.Pick.picked c.args.pick.now in
    let k : ℕ = c.place-place.result in
    let l : k < length pages = omega (arith, c.place-place.ensures.high, c.loop-probe.invariant.high) in
    let e = c.fall.ensures in
    record {
      low = omega (arith, e.low, e.high, c.place-place.ensures.low);
      high = omega (arith, e.high, l);
      below = rw e.low c.loop-probe.invariant.below;
      stops = λ d _. ap (λ (n : ℕ). ends_in picks (get_or pages n d)) e.high ∙ ends-read picks pages k (get_or pages k []) d c.last.result c.requires l (get_or_default pages k [] (get_or pages k []) l) c.last.ensures ∙ sym c.picks.ensures ∙ c.if-picks.false;
    }
