use Rattle.std.proofs.Common.{◌≡◌, take}
use Rattle.std.specs.Prelude.{map}
use Rattle.feed_history.specs.Rooms.{fault_site}
use Rattle.feed_history.proofs.rooms.sites_at_fault.Given as goal

abbrev pub invariant-loop-fault : goal.invariant-loop-fault
invariant-loop-fault g l = l.sites.items ≡ map fault_site (take l.fault-index l.faults)
