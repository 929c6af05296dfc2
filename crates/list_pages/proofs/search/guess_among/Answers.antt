use Rattle.std.proofs.Common.{◌<◌, ◌-◌, ℕ, length, arith}
use Rattle.list_pages.proofs.Picks.{half-some}
use Rattle.list_pages.proofs.search.guess_among.Goals as goal

pub last-requires-2-clause-some : goal.last-requires-2-clause-some
last-requires-2-clause-some g c =
    let pages = c.args.pages.now.pages in
    let k : ℕ = c.len-count.result - 1 in
    let l : k < length pages = omega (arith, c.if-count-lt-NEAR.false, c.len-count.ensures) in
    half-some pages k c.requires l
