use Rattle.std.proofs.Common.{◌<◌, ◌-◌, length, arith}
use Rattle.list_pages.proofs.Picks.{half-some}
use Rattle.list_pages.proofs.search.guess_in.Goals as goal

pub last-requires : goal.last-requires
last-requires g c =
    let pages = c.args.pages.now.pages in
    let k = c.args.p - 1 in
    let l : k < length pages = omega (arith, c.requires.within, c.if-p-eq0.false) in
    record { within = l; some = half-some pages k c.requires.half l }

pub last-requires-2 : goal.last-requires-2
last-requires-2 g c =
    let pages = c.args.pages.now.pages in
    let k = c.args.p in
    let l : k < length pages = c.requires.within in
    record { within = l; some = half-some pages k c.requires.half l }
