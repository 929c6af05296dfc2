use Rattle.std.proofs.Common.{◌<◌, ◌-◌, ◌∙◌, [], ℕ, length, get_or, sym, arith}
use Rattle.std.proofs.lemmas.List.{get_or_default}
use Rattle.list_pages.proofs.Picks.{half-some, ends-read}
use Rattle.list_pages.proofs.search.edge_page.Goals as goal

pub last-requires : goal.last-requires
last-requires g c =
    let pages = c.args.pages.now.pages in
    let k : ℕ = c.len-count.result - 1 in
    let l : k < length pages = omega (arith, c.if-count-gt0.true, c.len-count.ensures) in
    record { within = l; some = half-some pages k c.requires l }

pub returns-then-picks : goal.returns-then-picks
returns-then-picks g c =
    let pages = c.args.pages.now.pages in
    let picks = g.P.Pick.picked c.args.pick.now in
    let k : ℕ = c.len-count.result - 1 in
    let l : k < length pages = omega (arith, c.if-count-gt0.true, c.len-count.ensures) in
    record {
      within = omega (arith, c.len-count.ensures);
      below = λ d _. ends-read picks pages k (get_or pages k []) d c.last.result c.requires l (get_or_default pages k [] (get_or pages k []) l) c.last.ensures ∙ sym c.picks.ensures ∙ c.if-picks.true;
      stops = λ d z. absurd (omega arith);
    }

pub last-requires-then-count-gt0-2 : goal.last-requires-then-count-gt0-2
last-requires-then-count-gt0-2 g c =
    let pages = c.args.pages.now.pages in
    let l : 0 < length pages = omega (arith, c.if-count-gt0-2.true, c.len-count.ensures) in
    record { within = l; some = half-some pages 0 c.requires l }

pub returns-then-not-picks : goal.returns-then-not-picks
returns-then-not-picks g c =
    let pages = c.args.pages.now.pages in
    let picks = g.P.Pick.picked c.args.pick.now in
    let l : 0 < length pages = omega (arith, c.if-count-gt0-2.true, c.len-count.ensures) in
    record {
      within = omega arith;
      below = λ d z. absurd (omega arith);
      stops = λ d _. ends-read picks pages 0 (get_or pages 0 []) d c.last-then-count-gt0-2.result c.requires l (get_or_default pages 0 [] (get_or pages 0 []) l) c.last-then-count-gt0-2.ensures ∙ sym c.picks-then-count-gt0-2.ensures ∙ c.if-not-picks.true;
    }
