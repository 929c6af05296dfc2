-- A sheet of commands on a stored feed.
use Rattle.std.specs.Prelude.{ℕ, true, List, Option, Some}
use Rattle.feed_files.specs.Files.{Shelf}
use Rattle.desk_script.specs.FeedRun.{IsStoppedBy, IsStoredBy}
use Rattle.desk_script.specs.declared.feed_run.Room.{Room}
use Rattle.desk_script.specs.declared.sheet.Mode.{Mode}
use Rattle.desk_script.specs.declared.sheet_fault.SheetFault.{SheetFault}

-- the sheet was done on a feed that was let in, and then the feed and FEED.last were written
abbrev pub IsStoredSheet : Mode → Room → Shelf → Shelf → Option (List ℕ) → Option (List ℕ) → Option (List ℕ) → Type 0
IsStoredSheet mode room first last input before after =
    IsStoredBy (Some mode) (room.feed).now room.site room.older true first last input before after

-- why a run stopped, and what it left
abbrev pub IsStoppedOnFeed : Mode → Room → Shelf → Shelf → Option (List ℕ) → Option (List ℕ) → Option (List ℕ) → SheetFault
    → Type 0
IsStoppedOnFeed mode room first last input before after fault =
    IsStoppedBy (Some mode) (room.feed).now room.site room.older first last input before after fault
