use Rattle.std.proofs.Common.{◌≡◌, take}
use Rattle.feed_history.specs.RoomsTables.{sites_in}
use Rattle.feed_history.proofs.rooms.sites_in.Given as goal

abbrev pub invariant-loop-at : goal.invariant-loop-at
invariant-loop-at g l = l.sites.items ≡ sites_in (take l.at (g.Q.Sequence.entries l.sequence))
