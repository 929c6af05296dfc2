use Rattle.std.proofs.Common.{take}
use Rattle.feed_history.specs.RoomsTables.{AreTimes}
use Rattle.feed_history.proofs.rooms_made.times_of_each.Given as goal

abbrev pub invariant-loop-site : goal.invariant-loop-site
invariant-loop-site g l = AreTimes (take l.site-index l.sites) l.times.items
