-- A script on a stored feed, in a room that keeps how far its sites have come.
use Rattle.std.specs.Prelude.{ℕ, true, List, None, Option}
use Rattle.feed_files.specs.Files.{Shelf}
use Rattle.desk_script.specs.Fault.{of_room}
use Rattle.desk_script.specs.FeedRun.{IsStoppedBy, IsStoredBy}
use Rattle.desk_script.specs.declared.feed_run.Room.{Room}
use Rattle.desk_script.specs.declared.fault.RoomFault.{RoomFault}

-- a whole run of lines on a feed that was let in, and then the feed and FEED.last were written
abbrev pub AnswersInRoom : Room → Shelf → Shelf → Option (List ℕ) → Option (List ℕ) → Option (List ℕ) → Type 0
AnswersInRoom room first last input before after =
    IsStoredBy None (room.feed).now room.site room.older true first last input before after

-- why it stopped, and what it left
abbrev pub IsStoppedInRoom : Room → Shelf → Shelf → Option (List ℕ) → Option (List ℕ) → Option (List ℕ) → RoomFault → Type 0
IsStoppedInRoom room first last input before after fault =
    IsStoppedBy None (room.feed).now room.site room.older first last input before after (of_room fault)
