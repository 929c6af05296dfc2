-- Files checked by their names, in order.
use Rattle.std.specs.Prelude.{◌≡◌, ◌⊎◌, ℕ, Bool, true, false, ◌&&◌, List, [], ◌∷◌, ◌++◌, Option, Some, None, Result, Ok}
use Rattle.std.specs.Prelude.{Err, MatchBool, if◌then◌else◌}
use Rattle.std.specs.Io.KnownBytes.{Appends}
use Rattle.feed_files.specs.Files.{Counts, Reads, Shelf, Stays}
use Rattle.feed_files.specs.declared.files.FileRefusal.{FileRefusal}
use Rattle.feed_stored.specs.Sending.{WritesPrefix}
use Rattle.feed_check.specs.Lines.{SaysBytes, line_of}
use Rattle.feed_check.specs.Metal.{found_in, unfit_among}
use Rattle.feed_check.specs.Room.{SaysRoomFile, is_room_name}
use Rattle.feed_check.specs.Words.{refusal_words}
use Rattle.feed_check.specs.declared.fault.CheckFault.{CheckFault}
use Rattle.feed_check.specs.declared.fault.CheckFault.TheVariants as faults
use Rattle.feed_check.specs.declared.metal.Found.{Found}
use Rattle.feed_check.specs.declared.metal.Found.TheVariants as founds

-- what is said of bytes under a name: as a room's file where it is its name, and else by their kind
unfoldable pub SaysNamed : List ℕ → List ℕ → List ℕ → Bool → Type 0
SaysNamed name bytes said well =
    MatchBool (is_room_name name) (SaysRoomFile bytes said well) (SaysBytes bytes said well)

-- what bytes under a name give for a cast
unfoldable pub found_under : List ℕ → List ℕ → Found
found_under name bytes = if is_room_name name then founds.Neither else found_in bytes

-- what is said of what a read gave
abbrev pub SaysRead : List ℕ → Result (List ℕ) FileRefusal → List ℕ → Bool → Type 0
SaysRead name (Ok bytes) said well = SaysNamed name bytes said well
SaysRead name (Err why) said well = (refusal_words why ≡ Some said) × (well ≡ false)

-- what a read gave for a cast
abbrev pub found_by : List ℕ → Result (List ℕ) FileRefusal → Found
found_by name (Ok bytes) = found_under name bytes
found_by name (Err why) = founds.Neither

-- a name was read, this is its line, and this is what the file gives for a cast; no file changes
abbrev pub IsLine : List ℕ → Shelf → Shelf → List ℕ → Bool → Found → Type 0
IsLine name before after line well found =
    Stays before after × (read : Result (List ℕ) FileRefusal) × Reads (before.kept name) read × Counts read before after
    × (said : List ℕ) × SaysRead name read said well × (line ≡ line_of name said) × (found ≡ found_by name read)

-- the lines of names, one after the other, whether all the files are in order, and what each gives for a cast
abbrev pub AreLines : List (List ℕ) → Shelf → Shelf → List ℕ → Bool → List (List ℕ × Found) → Type 0
AreLines [] first last lines well files = (last ≡ first) × (lines ≡ []) × (well ≡ true) × (files ≡ [])
AreLines (name ∷ names) first last lines well files =
    (mid : Shelf) × (line rest : List ℕ) × (one others : Bool) × (found : Found) × (more : List (List ℕ × Found))
    × IsLine name first mid line one found × AreLines names mid last rest others more
    × (lines ≡ line ++ rest) × (well ≡ one && others) × (files ≡ (name, found) ∷ more)

-- the lines of all were written
abbrev pub AreWritten : List (List ℕ) → Shelf → Shelf → Option (List ℕ) → Option (List ℕ) → Bool → List (List ℕ × Found)
    → Type 0
AreWritten names first last before after well files =
    (lines : List ℕ) × AreLines names first last lines well files × Appends before after lines

-- the last line was written, where there is one: of a case and a wedge that do not go together
abbrev pub IsEnded : Option (List ℕ) → Option (List ℕ) → Option (List ℕ) → Bool → Type 0
IsEnded None before after fit = (after ≡ before) × (fit ≡ true)
IsEnded (Some line) before after fit = Appends before after line × (fit ≡ false)

-- the lines of all were written, and then that of the only case and the only wedge, where they do not go together
abbrev pub IsChecked : List (List ℕ) → Shelf → Shelf → Option (List ℕ) → Option (List ℕ) → Bool → Type 0
IsChecked names first last before after well =
    (between : Option (List ℕ)) × (all fit : Bool) × (files : List (List ℕ × Found))
    × AreWritten names first last before between all files × IsEnded (unfit_among files) between after fit
    × (well ≡ all && fit)

-- the line of one was written
abbrev pub SaysLine : List ℕ → Shelf → Shelf → Option (List ℕ) → Option (List ℕ) → Bool → Found → Type 0
SaysLine name before after held written well found =
    (line : List ℕ) × IsLine name before after line well found × Appends held written line

-- a read of a name answered, and its failure is counted where it failed
abbrev pub IsRead : List ℕ → Shelf → Shelf → Type 0
IsRead name before after = (read : Result (List ℕ) FileRefusal) × Reads (before.kept name) read
    × Counts read before after

-- why a line was not written: a prefix of it was, or nothing, where memory ran out
abbrev pub IsUnsaid : List ℕ → Shelf → Shelf → Option (List ℕ) → Option (List ℕ) → CheckFault → Type 0
IsUnsaid name before after held written faults.Write =
    (line : List ℕ) × (well : Bool) × (found : Found) × IsLine name before after line well found
    × WritesPrefix held written line
IsUnsaid name before after held written faults.NoMemory = Stays before after × (written ≡ held)
    × IsRead name before after

-- why the last line was not written: there is one, and a prefix of it was, or nothing, where memory ran out
abbrev pub IsUnended : Option (List ℕ) → Option (List ℕ) → Option (List ℕ) → CheckFault → Type 0
IsUnended None before after fault = ⊥
IsUnended (Some line) before after faults.Write = WritesPrefix before after line
IsUnended (Some line) before after faults.NoMemory = after ≡ before

-- the lines of the names before were written, and then the line of one was not
abbrev pub StopsAt : List (List ℕ) → Shelf → Shelf → Option (List ℕ) → Option (List ℕ) → CheckFault → Type 0
StopsAt names first last before after fault =
    (prefix tail : List (List ℕ)) × (name : List ℕ) × (names ≡ prefix ++ name ∷ tail) × (mid : Shelf)
    × (between : Option (List ℕ))
    × (well : Bool) × (files : List (List ℕ × Found))
    × AreWritten prefix first mid before between well files × IsUnsaid name mid last between after fault

-- the lines of all were written, and then the last line was not
abbrev pub StopsBehind : List (List ℕ) → Shelf → Shelf → Option (List ℕ) → Option (List ℕ) → CheckFault → Type 0
StopsBehind names first last before after fault =
    (between : Option (List ℕ)) × (well : Bool) × (files : List (List ℕ × Found))
    × AreWritten names first last before between well files × IsUnended (unfit_among files) between after fault

abbrev pub IsUnchecked : List (List ℕ) → Shelf → Shelf → Option (List ℕ) → Option (List ℕ) → CheckFault → Type 0
IsUnchecked names first last before after fault =
    StopsAt names first last before after fault ⊎ StopsBehind names first last before after fault
