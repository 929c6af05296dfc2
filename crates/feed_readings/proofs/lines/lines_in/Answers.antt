use Rattle.std.proofs.Common.{◌≡◌, List, subst, sym, All}
use Rattle.feed_readings.specs.declared.reading.Reading.{Reading}
use Rattle.feed_readings.specs.Pieces.{LiesIn}
use Rattle.feed_readings.specs.Readings.{open_readings}
use Rattle.feed_readings.proofs.Lies.{readings_lie}
use Rattle.feed_readings.proofs.lines.lines_in.Goals as goal

pub lines_of-requires : goal.lines_of-requires
lines_of-requires g c =
    let base = c.args.copies.now.base.items in
    let one = c.args.copies.now.one.items in
    let other = c.args.copies.now.other.items in
    let both = c.args.copies.now.both.items in
    let first : c.deref.result.now ≡ base = c.deref.ensures.value in
    let second : c.deref-2.result.now ≡ one = c.deref-2.ensures.value in
    let third : c.deref-3.result.now ≡ other = c.deref-3.ensures.value in
    let fourth : c.deref-4.result.now ≡ both = c.deref-4.ensures.value in
    let exact : c.in_ok-readings.readings.items ≡ open_readings c.deref.result.now c.deref-2.result.now c.deref-3.result.now c.deref-4.result.now = c.in_ok-readings.ensures.exact in
    let list : c.deref-5.result.now ≡ c.in_ok-readings.readings.items = c.deref-5.ensures.value in
    let same : c.deref-5.result.now ≡ open_readings base one other both = cc in
    subst (λ (l : List Reading). All (λ (r : Reading). LiesIn base one other both r.to) l) (sym same) (readings_lie base one other both)
