use Rattle.std.proofs.Common.{◌≡◌, ◌∙◌, ap}
use Rattle.feed_stored.specs.Text.{counter_of}
use Rattle.feed_stored.proofs.Places.{said_by, some_of}
use Rattle.feed_stored.proofs.last.recorded.Goals as goal

pub returns-in-Some : goal.returns-in-Some
returns-in-Some g c =
    let is = some_of _ _ c.in_ok-stamps.field-0 c.in-Some.stamps c.in-Some.is c.in_ok-stamps.ensures in
    said_by c.args.bytes.now c.in-Some.stamps.items c.args.site c.counter_of.result is (c.counter_of.ensures ∙ ap (λ l. counter_of l c.args.site) c.deref.ensures.value)
