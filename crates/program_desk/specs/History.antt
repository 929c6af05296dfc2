-- What was written of the sites of a stored feed and of the places of a text, and why it was not.
use Rattle.std.specs.Prelude.{◌≡◌, ◌⊎◌, ℕ, Bool, false, List, Option, Some, None, Ok}
use Rattle.std.specs.Borrow.{Bor}
use Rattle.clap.specs.Words.{Text}
use Rattle.feed_files.specs.Files.{Shelf, Stays}
use Rattle.feed_edit.specs.declared.fault.ExportFault.{ExportFault}
use Rattle.desk_ops.specs.declared.op.Symbol.{Symbol}
use Rattle.text_copy.specs.Reading.{Fails, reading}
use Rattle.text_copy.specs.declared.fault.TextFault.{TextFault}
use Rattle.feed_history.specs.Log.{IsLogged, IsUnlogged}
use Rattle.feed_history.specs.Rooms.{IsNoRoomsOf}
use Rattle.feed_history.specs.declared.asked.Asked.{Asked}
use Rattle.program_desk.specs.declared.history.Sieve.{Sieve}
use Rattle.program_desk.specs.declared.causes.Origin.TheVariants as origins
use Rattle.view_punch.specs.Finding.{IsFound, IsUnfound}
use Rattle.view_punch.specs.declared.finding.Wanted.{Wanted}
use Rattle.view_preview.specs.declared.sources.Sources.{Sources}
use Rattle.view_preview.specs.declared.fault.PreviewFault.{PreviewFault}
use Rattle.program_desk.specs.Causes.{export_cause, preview_cause, text_cause}
use Rattle.program_desk.specs.Explained.{IsSilent, Reports}

-- the sites were not written, and no file has changed
abbrev pub AreNoRooms : Bor Text → Shelf → Shelf → Option (List ℕ) → Option (List ℕ)
    → Bool → Option (List ℕ) → Option (List ℕ) → Type 0
AreNoRooms feed first last before after whole quiet said = Stays first last × (fault : ExportFault)
    × IsNoRoomsOf feed.now first last before after fault × Reports (export_cause feed fault) whole quiet said

-- ---- a log

-- which corrections are asked for
abbrev pub sieve : Option ℕ → Option ℕ → Option (Bor Text) → Sieve
sieve site since text = record { site = site; since = since; text = text }

-- the symbols of a text with marks, if one is given
abbrev pub IsRead : Option (Bor Text) → Option (Bor (List Symbol)) → Type 0
IsRead None symbols = symbols ≡ None
IsRead (Some text) symbols = (read : Bor (List Symbol)) × (symbols ≡ Some read)
    × (reading false text.now ≡ Ok read.now)

-- a text is given, and it has this fault
abbrev pub IsUnread : Option (Bor Text) → TextFault → Type 0
IsUnread None why = ⊥
IsUnread (Some text) why = Fails why (reading false text.now)

-- the same with the text read
abbrev pub IsSifted : Sieve → Asked → Type 0
IsSifted sieve asked = (asked.site ≡ sieve.site) × (asked.since ≡ sieve.since) × IsRead sieve.text asked.text

-- the corrections that are asked for were written; no file has changed
abbrev pub IsLoggedThere : Text → Sieve → Shelf → Shelf → Option (List ℕ) → Option (List ℕ) → Type 0
IsLoggedThere feed sieve first last before after = Stays first last × (asked : Asked) × IsSifted sieve asked
    × IsLogged asked feed first before after

-- they were not, and no file has changed
abbrev pub IsNotLoggedBy : Bor Text → Asked → Shelf → Shelf → Option (List ℕ) → Option (List ℕ)
    → Bool → Option (List ℕ) → Option (List ℕ) → Type 0
IsNotLoggedBy feed asked first last before after whole quiet said = Stays first last × (fault : ExportFault)
    × IsUnlogged asked feed.now first last before after fault × Reports (export_cause feed fault) whole quiet said

-- nor were they where the text has a fault, and then nothing was begun
abbrev pub IsNotLogged : Bor Text → Sieve → Shelf → Shelf → Option (List ℕ) → Option (List ℕ)
    → Bool → Option (List ℕ) → Option (List ℕ) → Type 0
IsNotLogged feed sieve first last before after whole quiet said =
    ((asked : Asked) × IsSifted sieve asked × IsNotLoggedBy feed asked first last before after whole quiet said)
    ⊎ ((last ≡ first) × (after ≡ before) × (why : TextFault) × IsUnread sieve.text why
    × Reports (text_cause feed origins.Sought why) whole quiet said)

-- ---- a search

-- what is looked for, and by which metal places have lines
abbrev pub wanted : Bor Text → Bool → Option (Bor Text × Bor Text) → Wanted
wanted text plain metal = record { text = text; plain = plain; metal = metal }

abbrev pub case_of : Bor Text → Option (Bor Text × Bor Text) → Bor Text
case_of feed (Some metal) = metal.0
case_of feed None = feed

abbrev pub wedge_of : Bor Text → Option (Bor Text × Bor Text) → Bor Text
wedge_of feed (Some metal) = metal.1
wedge_of feed None = feed

-- the files of a search; where no metal is given none is read but the feed
abbrev pub sought_in : Bor Text → Option (Bor Text × Bor Text) → Sources
sought_in feed metal = record {
  version = record { feed = feed; until = None };
  case = case_of feed metal;
  wedge = wedge_of feed metal;
}

-- the places of a text were written, if there are any; no file has changed
abbrev pub IsFoundThere : Bor Text → Wanted → Shelf → Shelf → Option (List ℕ) → Option (List ℕ) → Bool → Type 0
IsFoundThere feed asked first last before after found = Stays first last × IsFound feed asked first before after found

-- it has none; or they were not written, and standard error has the lines on the fault
abbrev pub IsNotFound : Bor Text → Wanted → Shelf → Shelf → Option (List ℕ) → Option (List ℕ)
    → Bool → Option (List ℕ) → Option (List ℕ) → Type 0
IsNotFound feed asked first last before after whole quiet said =
    (IsFoundThere feed asked first last before after false × IsSilent whole quiet said)
    ⊎ (Stays first last × (fault : PreviewFault) × IsUnfound feed asked first last before after fault
    × Reports (preview_cause (sought_in feed asked.metal) feed fault) whole quiet said)
