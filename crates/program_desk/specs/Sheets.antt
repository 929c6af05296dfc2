-- What a run of commands has done, and what it left, by how they are carried out.
use Rattle.std.specs.Prelude.{◌≡◌, ℕ, Bool, true, false, List, Option, IfSome, MatchBool, ◌||◌}
use Rattle.std.specs.Borrow.{Bor}
use Rattle.clap.specs.Words.{Text}
use Rattle.feed_files.specs.Files.{Shelf, Stays}
use Rattle.script_world.specs.Sites.{Sites, no_sites}
use Rattle.desk_script.specs.Desk.{desk}
use Rattle.desk_script.specs.Fault.{IsOfLines}
use Rattle.desk_script.specs.Script.{Answers, AnswersBefore, AnswersPrefix}
use Rattle.desk_script.specs.Room.{AnswersInRoom, IsStoppedInRoom}
use Rattle.desk_script.specs.declared.feed_run.Room.{Room}
use Rattle.desk_script.specs.declared.fault.RoomFault.{RoomFault}
use Rattle.desk_script.specs.declared.fault.RoomFault.TheVariants as rooms
use Rattle.desk_script.specs.declared.fault.RunFault.{RunFault}
use Rattle.desk_script.specs.declared.fault.RunFault.TheVariants as runs
use Rattle.desk_script.specs.Sheet.{IsDone, IsStopped}
use Rattle.desk_script.specs.StoredSheet.{IsStoredSheet}
use Rattle.desk_script.specs.StoredSheet as sheets
use Rattle.desk_script.specs.declared.sheet_fault.SheetFault.{SheetFault}
use Rattle.desk_script.specs.declared.sheet_fault.SheetFault.TheVariants as stops
use Rattle.desk_script.specs.declared.sheet.Mode.{Mode}
use Rattle.program_words.specs.declared.wishes.Manner.{Manner}
use Rattle.program_desk.specs.Causes.{desk_cause, room_cause, stop_cause}
use Rattle.program_desk.specs.Explained.{TellsOf}

-- the commands are read as a sheet: to their end, before the first is carried out
abbrev pub is_sheet : Manner → Bool
is_sheet manner = manner.strict || manner.number

abbrev pub mode_of : Manner → Mode
mode_of manner = record { strict = manner.strict; number = manner.number }

-- ---- a script

-- all that was read was answered
abbrev pub IsAnswered : Shelf → Shelf → Option (List ℕ) → Option (List ℕ) → Option (List ℕ) → Type 0
IsAnswered first last input before after =
    IfSome input (λ bytes. (new : Sites) × Answers (desk no_sites first) (desk new last) bytes before after)

-- a prefix of it was, for this fault of the commands themselves; where a line was not kept, all answers before it were
-- written
abbrev pub IsCutOff : Shelf → Shelf → Option (List ℕ) → Option (List ℕ) → Option (List ℕ) → RunFault → Type 0
IsCutOff first last input before after fault =
    IsOfLines fault
    × IfSome input (λ bytes. AnswersPrefix (desk no_sites first) last bytes before after)
    × (fault ≡ runs.NoMemory → IfSome input (λ bytes. AnswersBefore (desk no_sites first) last bytes before after))

-- as a sheet
abbrev pub IsDoneSheet : Mode → Shelf → Shelf → Option (List ℕ) → Option (List ℕ) → Option (List ℕ) → Type 0
IsDoneSheet mode first last input before after =
    (new : Sites) × IsDone mode (desk no_sites first) (desk new last) input before after

abbrev pub IsStoppedSheet : Mode → Shelf → Shelf → Option (List ℕ) → Option (List ℕ) → Option (List ℕ) → SheetFault
    → Type 0
IsStoppedSheet mode first last input before after fault = (new : Sites)
    × IsStopped mode (desk no_sites first) (desk new last) input before after fault

-- the commands are carried out, and no file has changed
abbrev pub IsScripted : Manner → Shelf → Shelf → Option (List ℕ) → Option (List ℕ) → Option (List ℕ) → Type 0
IsScripted manner first last input before after =
    Stays first last
    × MatchBool (is_sheet manner) (IsDoneSheet (mode_of manner) first last input before after)
    (IsAnswered first last input before after)

-- standard error has the first line on this fault, which names no file
abbrev pub TellsRun : RunFault → Bool → Option (List ℕ) → Option (List ℕ) → Type 0
TellsRun fault whole quiet said = (name : Bor Text) × TellsOf false (desk_cause name fault) whole quiet said

-- so of a sheet
abbrev pub TellsSheet : SheetFault → Bool → Option (List ℕ) → Option (List ℕ) → Type 0
TellsSheet fault whole quiet said = (name : Bor Text) × TellsOf false (stop_cause name 0 fault) whole quiet said

-- they stopped for a fault, and standard error has the line of this fault
abbrev pub IsUnscripted : Manner → Shelf → Shelf → Option (List ℕ) → Option (List ℕ) → Option (List ℕ)
    → Bool → Option (List ℕ) → Option (List ℕ) → Type 0
IsUnscripted manner first last input before after whole quiet said =
    Stays first last
    × MatchBool (is_sheet manner) ((fault : SheetFault)
    × IsStoppedSheet (mode_of manner) first last input before after fault × TellsSheet fault whole quiet said)
    ((fault : RunFault) × IsCutOff first last input before after fault × TellsRun fault whole quiet said)

-- ---- a desk

-- the commands are carried out on a stored feed, which is not older than what was stored here, or that is wanted; and
-- it is stored
abbrev pub IsOnDesk : Manner → Room → Shelf → Shelf → Option (List ℕ) → Option (List ℕ) → Option (List ℕ) → Type 0
IsOnDesk manner room first last input before after =
    MatchBool (is_sheet manner) (IsStoredSheet (mode_of manner) room first last input before after)
    (AnswersInRoom room first last input before after)

-- the feed is older: a second line is written, though none asks why
abbrev pub is_older : RoomFault → Bool
is_older (rooms.Older made held) = true
is_older (rooms.Run fault) = false

abbrev pub is_older_sheet : SheetFault → Bool
is_older_sheet (stops.Line number) = false
is_older_sheet (stops.Older made held) = true
is_older_sheet (stops.Run fault) = false

-- They stopped for a fault, this is what they left, and standard error has the lines on this fault: the first and,
-- where it is asked why or the feed is older, the second.
abbrev pub IsOffDesk : Manner → Room → Bool → Shelf → Shelf → Option (List ℕ) → Option (List ℕ) → Option (List ℕ)
    → Bool → Option (List ℕ) → Option (List ℕ) → Type 0
IsOffDesk manner room why first last input before after whole quiet said =
    MatchBool (is_sheet manner) ((fault : SheetFault)
    × sheets.IsStoppedOnFeed (mode_of manner) room first last input before after fault
    × TellsOf (why || is_older_sheet fault) (stop_cause room.feed room.site fault) whole quiet said)
    ((fault : RoomFault) × IsStoppedInRoom room first last input before after fault
    × TellsOf (why || is_older fault) (room_cause room.feed room.site fault) whole quiet said)
