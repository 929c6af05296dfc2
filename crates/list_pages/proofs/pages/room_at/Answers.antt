use Rattle.std.proofs.Common.{◌<◌, length, refl, arith}
use Rattle.list_pages.proofs.Cuts.{end-is}
use Rattle.list_pages.proofs.pages.room_at.Goals as goal

pub returns-then-p-len : goal.returns-then-p-len
returns-then-p-len g c = rw (end-is c.args.pages.now.pages c.args.p c.args.j c.requires (omega (arith, c.if-p-len.true, c.len.ensures))) c.end.ensures.gap

pub returns-then-len_of-lt-FULL : goal.returns-then-len_of-lt-FULL
returns-then-len_of-lt-FULL g c =
    let pages = c.args.pages.now.pages in
    let w : c.args.p < length pages = omega (arith, c.if-p-len.false, c.len.ensures) in
    let n = c.len_of.ensures.len in
    let k = c.requires.inside w in
    record { within = w; inside = omega arith; has_room = omega (arith, c.if-len_of-lt-FULL.true); is = refl }
