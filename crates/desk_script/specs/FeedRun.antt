-- Commands on a stored feed, answered one by one or as a sheet.
use Rattle.std.specs.Prelude.{◌≡◌, ◌≤◌, ◌⊎◌, ℕ, Bool, true, false, List, MatchBool, Option, Some, None, IfSome}
use Rattle.std.specs.FinMap as fin
use Rattle.std.specs.Io.KnownBytes.{IsAtEnd}
use Rattle.desk_ops.specs.declared.op.Op.{Op}
use Rattle.desk_ops.specs.OpSet.{OpSet, max_ops, no_ops, size, with_all}
use Rattle.desk_codec.specs.Runs.{set_feed}
use Rattle.feed_files.specs.Files.{Counts, IsNowHeld, Reads, Shelf, Stays}
use Rattle.feed_files.specs.declared.files.FileRefusal.{FileRefusal}
use Rattle.feed_stored.specs.Fault.{IsNotStored, IsUnopened, IsUnread, IsUntaken}
use Rattle.feed_stored.specs.Room.{is_compared}
use Rattle.feed_stored.specs.Room as of_set
use Rattle.feed_stored.specs.Stored.{IsStoredAs, Stores, as_read}
use Rattle.feed_stored.specs.declared.fault.OpenFault.{OpenFault}
use Rattle.feed_stored.specs.declared.fault.OpenFault.TheVariants as openings
use Rattle.feed_stored.specs.declared.last_fault.LastFault.{LastFault}
use Rattle.script_world.specs.Sites.{Sites, no_sites}
use Rattle.desk_script.specs.Desk.{Desk}
use Rattle.desk_script.specs.Fault.{IsOfLines, of_file, of_letting, of_opening}
use Rattle.desk_script.specs.Lines.{lines}
use Rattle.desk_script.specs.Script.{Turn, StopsWithin, StopsBefore}
use Rattle.desk_script.specs.Sheet.{IsDone, IsStopped, LeavesOff}
use Rattle.desk_script.specs.declared.fault.RunFault.{RunFault}
use Rattle.desk_script.specs.declared.fault.RunFault.TheVariants as runs
use Rattle.desk_script.specs.declared.sheet.Mode.{Mode}
use Rattle.desk_script.specs.declared.sheet_fault.SheetFault.{SheetFault}
use Rattle.desk_script.specs.declared.sheet_fault.SheetFault.TheVariants as faults

-- ---- a feed is taken

-- a world of one site, which holds these operations
abbrev pub one_site : ℕ → List Op → Sites
one_site n ops = fin.insert no_sites n (with_all no_ops ops)

-- the desk of the site with the stored operations, which a replica can hold, by what was read under the name while it
-- was held
abbrev pub IsStart : List ℕ → ℕ → Shelf → Option (List ℕ) → Desk → Type 0
IsStart name n held read start =
    Reads (held.kept name) (as_read read) × Counts (as_read read) held start.shelf × (ops : List Op) × Stores read ops
    × (size (with_all no_ops ops) ≤ max_ops) × (start.sites ≡ one_site n ops)
    × Stays held start.shelf

-- the name was taken for this run, and the site holds the operations of what was read of the feed while it was held
abbrev pub IsOpened : List ℕ → ℕ → Shelf → Option (List ℕ) → Desk → Type 0
IsOpened name n first read start = (held : Shelf) × IsNowHeld name first held × IsStart name n held read start

-- no site was made of what was read of a stored feed: it was not opened, or no file is there and memory ran out for
-- the site
abbrev pub IsUnbegun : Option (List ℕ) → OpenFault → Type 0
IsUnbegun read why = IsUnopened read why ⊎ ((read ≡ None) × (why ≡ openings.NoMemory))

-- what was read of a stored feed was not opened
abbrev pub IsClosed : List ℕ → Shelf → Shelf → OpenFault → Type 0
IsClosed name held last why =
    (read : Option (List ℕ)) × Reads (held.kept name) (as_read read) × Counts (as_read read) held last × Stays held last
    × IsUnbegun read why

-- why a stored feed was not taken, and no file has changed: its name was not taken; or it was, and the file was not
-- read, or its feed not opened
abbrev pub IsBarred : List ℕ → Shelf → Shelf → RunFault → Type 0
IsBarred name first last fault =
    ((why : FileRefusal) × (fault ≡ of_file why) × IsUntaken name first last why)
    ⊎ ((held : Shelf) × IsNowHeld name first held
    × (((why : FileRefusal) × (fault ≡ of_file why) × IsUnread name held last why)
    ⊎ ((why : OpenFault) × (fault ≡ of_opening why) × IsClosed name held last why)))

-- ---- it is let in

-- the feed was compared, and holds no less of the site than it has made here; or it was not compared, and nothing was
-- done
abbrev pub IsLetIn : List ℕ → ℕ → Bool → Desk → Shelf → Type 0
IsLetIn name n compared start guarded =
    (set : OpSet) × (fin.get start.sites n ≡ Some set) × of_set.IsLetIn name n compared set start.shelf guarded

-- the feed was compared, and is older; or memory was refused for that
abbrev pub IsKeptOut : List ℕ → ℕ → Bool → Desk → Shelf → LastFault → Type 0
IsKeptOut name n compared start last why =
    (set : OpSet) × (fin.get start.sites n ≡ Some set) × of_set.IsKeptOut name n compared set start.shelf last why

-- the name was taken for this run, and the feed let in: it is not older than what this room made there, or that was
-- not asked
abbrev pub IsEntered : List ℕ → ℕ → Bool → Shelf → Option (List ℕ) → Desk → Type 0
IsEntered name n older first read begun =
    (start : Desk) × IsOpened name n first read start × (begun.sites ≡ start.sites)
    × IsLetIn name n (is_compared older read) start begun.shelf

-- the name was taken, and the feed not let in
abbrev pub IsShutOut : List ℕ → ℕ → Bool → Shelf → Shelf → LastFault → Type 0
IsShutOut name n older first last why =
    (read : Option (List ℕ)) × (start : Desk) × IsOpened name n first read start
    × IsKeptOut name n (is_compared older read) start last why

-- ---- lines are answered, one by one or as a sheet of a mode

-- all lines were answered, where the bytes are known
abbrev pub HasAnswered : Option Mode → Desk → Desk → Option (List ℕ) → Option (List ℕ) → Option (List ℕ) → Type 0
HasAnswered None old new input before after = IfSome input (λ bytes. Turn old new before after (lines bytes))
HasAnswered (Some mode) old new input before after = IsDone mode old new input before after

-- They were not. One by one a prefix of the answers was written; where a line was not kept, all answers before it were.
abbrev pub IsBroken : Option Mode → Desk → Desk → Option (List ℕ) → Option (List ℕ) → Option (List ℕ) → SheetFault
    → Type 0
IsBroken None old new input before after (faults.Run why) =
    IsOfLines why × IfSome input (λ bytes. StopsWithin old new.shelf before after (lines bytes))
    × (why ≡ runs.NoMemory → IfSome input (λ bytes. StopsBefore old new.shelf before after (lines bytes)))
IsBroken None old new input before after (faults.Line k) = ⊥
IsBroken None old new input before after (faults.Older made held) = ⊥
IsBroken (Some mode) old new input before after fault = IsStopped mode old new input before after fault

-- how far the reader was read then
abbrev pub IsCutOff : Option Mode → Option (List ℕ) → Option (List ℕ) → SheetFault → Type 0
IsCutOff None before after fault = Unit {0}
IsCutOff (Some mode) before after fault = LeavesOff before after fault

-- ---- the feed is stored

-- the site's feed, and no other, stands under the name
abbrev pub IsStored : List ℕ → ℕ → Desk → Option (List ℕ) → Shelf → Type 0
IsStored name n desk read last = (set : OpSet) × (fin.get desk.sites n ≡ Some set)
    × IsStoredAs name (set_feed set) read desk.shelf last

-- the greatest counter of the site stands in FEED.last, or that file is as it was
abbrev pub IsMarked : List ℕ → ℕ → Desk → Shelf → Shelf → Type 0
IsMarked name n new stored last =
    (set : OpSet) × (fin.get new.sites n ≡ Some set) × of_set.IsMarked name n set stored last

-- ---- all of it

-- the feed was opened and let in, all lines were answered, and then the feed was stored; and FEED.last was written,
-- where that is wanted
abbrev pub IsStoredBy : Option Mode → List ℕ → ℕ → Bool → Bool → Shelf → Shelf → Option (List ℕ) → Option (List ℕ)
    → Option (List ℕ) → Type 0
IsStoredBy mode name n older marks first last input before after =
    (read : Option (List ℕ)) × (begun : Desk) × IsEntered name n older first read begun
    × (new : Desk) × Stays begun.shelf new.shelf × HasAnswered mode begun new input before after
    × (stored : Shelf) × IsStored name n new read stored
    × MatchBool marks (IsMarked name n new stored last) (last ≡ stored)

-- Why a run stopped, and what it left: the feed was not taken, or not let in, and nothing was written; or lines were
-- not answered, and no file has changed; or they were, and the feed was not stored.
abbrev pub IsStoppedBy : Option Mode → List ℕ → ℕ → Bool → Shelf → Shelf → Option (List ℕ) → Option (List ℕ)
    → Option (List ℕ) → SheetFault → Type 0
IsStoppedBy mode name n older first last input before after fault =
    ((after ≡ before) × (why : RunFault) × (fault ≡ faults.Run why) × IsBarred name first last why)
    ⊎ ((after ≡ before) × (why : LastFault) × (fault ≡ of_letting why) × IsShutOut name n older first last why)
    ⊎ ((read : Option (List ℕ)) × (begun : Desk) × IsEntered name n older first read begun
    × (new : Desk) × Stays begun.shelf new.shelf
    × ((IsBroken mode begun new input before after fault × (last ≡ new.shelf))
    ⊎ (HasAnswered mode begun new input before after × (why : FileRefusal) × (fault ≡ faults.Run (of_file why))
    × IsNotStored name new.shelf last why)))

-- how far the reader of a run that stopped was read: not at all, where the feed was not taken or not let in; to its
-- end, where the feed was not stored; or as the lines were not answered
abbrev pub LeavesOffBy : Option Mode → Option (List ℕ) → Option (List ℕ) → SheetFault → Type 0
LeavesOffBy mode before after fault =
    ((after ≡ before) × (((why : FileRefusal) × (fault ≡ faults.Run (of_file why)))
    ⊎ ((why : OpenFault) × (fault ≡ faults.Run (of_opening why))) ⊎ ((why : LastFault) × (fault ≡ of_letting why))))
    ⊎ IsCutOff mode before after fault
    ⊎ ((why : FileRefusal) × (fault ≡ faults.Run (of_file why)) × IsAtEnd after)

-- a run of lines on a feed, which does not ask whether that is older, and writes no FEED.last
abbrev pub AnswersStored : List ℕ → ℕ → Shelf → Shelf → Option (List ℕ) → Option (List ℕ) → Option (List ℕ) → Type 0
AnswersStored name n first last input before after = IsStoredBy None name n true false first last input before after

abbrev pub IsStoppedOnFeed : List ℕ → ℕ → Shelf → Shelf → Option (List ℕ) → Option (List ℕ) → Option (List ℕ) → RunFault
    → Type 0
IsStoppedOnFeed name n first last input before after fault =
    IsStoppedBy None name n true first last input before after (faults.Run fault)
