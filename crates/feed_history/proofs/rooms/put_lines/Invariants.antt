use Rattle.std.proofs.Common.{◌≡◌, ◌++◌, drop}
use Rattle.std.specs.Prelude.{flat_map, string_bytes}
use Rattle.desk_ops.specs.OpSet.{OpSet}
use Rattle.feed_history.specs.Rooms.{site_line, site_lines, sites}
use Rattle.feed_history.specs.RoomsTables.{AreRooms}
use Rattle.feed_history.proofs.rooms.put_lines.Given as goal

abbrev pub invariant-loop-site : goal.invariant-loop-site
invariant-loop-site g l = (set : OpSet) → AreRooms set l.made l.shown l.faults
    → string_bytes l.out ++ flat_map (site_line set) (drop l.site sites) ≡ string_bytes l.fn.out ++ site_lines set
