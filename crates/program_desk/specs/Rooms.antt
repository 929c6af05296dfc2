-- What the words of the command line ask for in a room, whose file gives options that need not be typed.
use Rattle.std.specs.Prelude.{◌≡◌, ◌≢◌, ◌⊎◌, ℕ, Bool, true, List, ◌++◌, MatchBool, Option, Some, None, Result, Ok}
use Rattle.std.specs.Prelude.{Err, Vec, codes, map, string_bytes, String}
use Rattle.std.specs.Borrow.{Bor}
use Rattle.std.specs.declared.alloc.Global.{Global}
use Rattle.clap.specs.Words.{Text}
use Rattle.feed_files.specs.Files.{Reads, Shelf, Stays}
use Rattle.feed_files.specs.declared.files.FileRefusal.{FileRefusal}
use Rattle.feed_files.specs.declared.files.FileRefusal.TheVariants as refusals
use Rattle.feed_check.specs.Room.{IsRoom, room_name}
use Rattle.feed_check.specs.RoomOptions.{given}
use Rattle.feed_check.specs.declared.room.RoomFile.TheVariants as rooms
use Rattle.feed_check.specs.declared.room_options.RoomOption.{RoomOption}
use Rattle.program_desk.specs.Causes.{file_cause}
use Rattle.program_desk.specs.Completed.{completed, wants_room}
use Rattle.program_desk.specs.Explained.{TellsOf}
use Rattle.program_desk.specs.Headlines.{said_line}
use Rattle.program_desk.specs.Told.{IsShown, Tells}
use Rattle.program_desk.specs.declared.causes.Said.TheVariants as saids

-- ---- all the words

-- words with what a room's file gives, by what a read of it gave
abbrev pub IsFilled : Result (List ℕ) FileRefusal → List Text → List Text → Type 0
IsFilled (Ok bytes) words all = (options : Vec RoomOption Global) × IsRoom bytes (rooms.Taken options)
    × (all ≡ completed (map given options.items) words)
IsFilled (Err refusals.Missing) words all = all ≡ words
IsFilled (Err refusals.Device) words all = ⊥
IsFilled (Err refusals.Large) words all = ⊥
IsFilled (Err refusals.NoMemory) words all = ⊥

-- all that is asked for: the words, where they want nothing of a room's file, and else with what that gives
abbrev pub AreAll : Shelf → List Text → List Text → Type 0
AreAll shelf words all = MatchBool (wants_room words)
    ((read : Result (List ℕ) FileRefusal) × Reads (shelf.kept room_name) read × IsFilled read words all) (all ≡ words)

-- the words that were made, or those that are there
abbrev pub all_or : List Text → Option (Vec (String Global) Global) → List Text
all_or words None = words
all_or words (Some all) = map string_bytes all.items

-- ---- what stops

-- the lines on what is wrong with a room's file
abbrev pub refused_lines : List ℕ → List ℕ
refused_lines shown = codes "copydesk: input refused\ncopydesk.toml: " ++ (shown ++ codes "\n")

-- what is wrong with the bytes of a room's file was written
abbrev pub TellsWrong : List ℕ → Bool → Option (List ℕ) → Option (List ℕ) → Type 0
TellsWrong bytes whole quiet said = (words : String Global) × IsRoom bytes (rooms.Refused words)
    × (shown : List ℕ) × IsShown (string_bytes words) shown × Tells whole quiet said (refused_lines shown)

-- why a read of a room's file gave no bytes was written; that there is none stops nothing
abbrev pub TellsUnread : FileRefusal → Bool → Option (List ℕ) → Option (List ℕ) → Type 0
TellsUnread why whole quiet said = (why ≢ refusals.Missing)
    × (name : Bor Text) × (name.now ≡ room_name) × TellsOf true (file_cause name why) whole quiet said

abbrev pub TellsRead : Result (List ℕ) FileRefusal → Bool → Option (List ℕ) → Option (List ℕ) → Type 0
TellsRead (Ok bytes) whole quiet said = TellsWrong bytes whole quiet said
TellsRead (Err why) whole quiet said = TellsUnread why whole quiet said

-- memory ran out for the words
abbrev pub TellsNoMemory : Bool → Option (List ℕ) → Option (List ℕ) → Type 0
TellsNoMemory whole quiet said = Tells whole quiet said (said_line saids.NoMemory)

-- The room's file is refused, or memory ran out for the words with it. No file has changed, and standard error has the
-- lines on it.
abbrev pub IsRefused : Shelf → Shelf → Bool → Option (List ℕ) → Option (List ℕ) → Type 0
IsRefused first last whole quiet said = Stays first last
    × (((read : Result (List ℕ) FileRefusal) × Reads (first.kept room_name) read × TellsRead read whole quiet said)
    ⊎ TellsNoMemory whole quiet said)
