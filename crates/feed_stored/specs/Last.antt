-- FEED.last beside FEED: when it refuses a run, and what is written of it.
use Rattle.std.specs.Prelude.{◌≡◌, ◌≢◌, ◌<◌, ◌⊎◌, ℕ, List, [], ◌++◌, MatchOption, Option, None, Some, Result, Ok, Err}
use Rattle.std.specs.Prelude.{codes}
use Rattle.desk_ops.specs.declared.op.Stamp.{Stamp}
use Rattle.feed_files.specs.Files.{Counts, Kept, Names, Reads, Shelf, new_name}
use Rattle.feed_files.specs.declared.files.FileRefusal.{FileRefusal}
use Rattle.feed_files.specs.declared.files.FileRefusal.TheVariants as refusals
use Rattle.feed_stored.specs.Stored.{IsStoredAs, as_read}
use Rattle.feed_stored.specs.declared.last_fault.LastFault.{LastFault}
use Rattle.feed_stored.specs.declared.last_fault.LastFault.TheVariants as faults
use Rattle.desk_ops.specs.OpSet.{OpSet}
use Rattle.feed_stored.specs.Greatest.{greatest_of}
use Rattle.feed_stored.specs.Text.{IsTextOf, Records, last_text, with_stamp}

-- the name of the file beside a feed
abbrev pub last_name : List ℕ → List ℕ
last_name name = name ++ codes ".last"

-- what was read of FEED.last says that a site has made this counter here; what was not read says nothing
abbrev pub Says : Result (List ℕ) FileRefusal → ℕ → ℕ → Type 0
Says (Ok bytes) site made = Records bytes site made
Says (Err why) site made = ⊥

-- what was read of FEED.last, and what it says of the site; memory was not refused
abbrev pub SaysAll : List ℕ → ℕ → Shelf → Shelf → Option ℕ → Type 0
SaysAll name site before after said =
    (read : Result (List ℕ) FileRefusal) × Reads (before.kept (last_name name)) read × Counts read before after
    × (read ≢ Err refusals.NoMemory)
    × MatchOption said ((made : ℕ) → Says read site made → ⊥) (λ made. Says read site made)

-- FEED.last was read, and says that the site made more here than is held
abbrev pub IsOlder : List ℕ → ℕ → ℕ → ℕ → Shelf → Type 0
IsOlder name site made held shelf =
    (read : Result (List ℕ) FileRefusal) × Reads (shelf.kept (last_name name)) read × Says read site made
    × (held < made)

-- FEED.last was read, and says nothing of the site, or no more than is held; or it is missing, or too large, or the
-- device failed
abbrev pub IsNotOlder : List ℕ → ℕ → ℕ → Shelf → Shelf → Type 0
IsNotOlder name site held before after =
    (read : Result (List ℕ) FileRefusal) × Reads (before.kept (last_name name)) read × Counts read before after
    × (read ≢ Err refusals.NoMemory)
    × ((made : ℕ) → Says read site made → held < made → ⊥)

-- why a feed was refused, or not compared: it is older, or memory was refused
abbrev pub IsHeldBack : List ℕ → ℕ → ℕ → Shelf → LastFault → Type 0
IsHeldBack name site held shelf (faults.Older made had) = (had ≡ held) × IsOlder name site made held shelf
IsHeldBack name site held shelf faults.NoMemory = Unit {0}

-- the stamps of what was read of FEED.last, and none where that is no such text, or no file is there
abbrev pub HadStamps : Option (List ℕ) → List Stamp → Type 0
HadStamps None stamps = stamps ≡ []
HadStamps (Some bytes) stamps = IsTextOf bytes stamps
    ⊎ ((stamps ≡ []) × ((some : List Stamp) → IsTextOf bytes some → ⊥))

-- FEED.last has this stamp in place of its site's, and the other sites' as they were; where it had this text already
-- nothing was written
abbrev pub IsNoted : List ℕ → Stamp → Shelf → Shelf → Type 0
IsNoted name stamp before after =
    (read : Option (List ℕ)) × Reads (before.kept (last_name name)) (as_read read)
    × (stamps : List Stamp) × HadStamps read stamps
    × IsStoredAs (last_name name) (last_text (with_stamp stamps stamp)) read before after

-- no name but that of FEED.last, and of its writing, stands for something else
abbrev pub SparesAll : List ℕ → Names → Names → Type 0
SparesAll name before after = (other : List ℕ) → other ≢ last_name name → other ≢ new_name (last_name name)
    → after other ≡ before other

-- the greatest stamp that a site bears in a set, or one of 0
abbrev pub stamp_by : OpSet → ℕ → Stamp
stamp_by set site = record { counter = greatest_of set site; site = site }
