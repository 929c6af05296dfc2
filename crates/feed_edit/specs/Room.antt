-- A stored feed that a room works on, opened.
use Rattle.std.specs.Prelude.{ℕ, List, Option}
use Rattle.desk_ops.specs.OpSet.{OpSet}
use Rattle.feed_files.specs.Files.{Shelf}
use Rattle.feed_edit.specs.Merging.{IsOpened}
use Rattle.feed_stored.specs.Room.{IsKeptOut, IsLetIn, is_compared}
use Rattle.feed_edit.specs.declared.room.Room.{Room}
use Rattle.feed_stored.specs.declared.last_fault.LastFault.{LastFault}

-- the name was taken, a feed of this set was read under it, or no file was there, and it was let in
abbrev pub IsOpenedHere : Room → Shelf → Shelf → Option (List ℕ) → OpSet → Type 0
IsOpenedHere room first last read set =
    (held : Shelf) × IsOpened (room.feed).now first held read set
    × IsLetIn (room.feed).now room.site (is_compared room.older read) set held last

-- a feed of this set was opened, and not let in
abbrev pub IsBarredHere : Room → Shelf → Shelf → LastFault → Type 0
IsBarredHere room first last why =
    (held : Shelf) × (read : Option (List ℕ)) × (set : OpSet)
    × IsOpened (room.feed).now first held read set
    × IsKeptOut (room.feed).now room.site (is_compared room.older read) set held last why
