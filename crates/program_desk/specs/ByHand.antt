-- What was done by hand with a stored feed stopped, what it left, and what standard error has.
use Rattle.std.specs.Prelude.{◌≡◌, ◌⊎◌, ◌&&◌, ℕ, Bool, true, false, not, if◌then◌else◌, List, [], ◌++◌, Option, Some}
use Rattle.std.specs.Prelude.{slice_get}
use Rattle.std.specs.Borrow.{Bor}
use Rattle.std.specs.declared.alloc.Global.{Global}
use Rattle.clap.specs.Words.{Text}
use Rattle.program_words.specs.Words.{texts_of}
use Rattle.feed_edit.specs.Forks.{forks_line}
use Rattle.feed_files.specs.Files.{Shelf, Stays}
use Rattle.feed_edit.specs.Exporting.{IsUnexported}
use Rattle.feed_edit.specs.Importing.{IsUnimported}
use Rattle.feed_edit.specs.Merging.{IsMerged, IsUnmerged}
use Rattle.feed_edit.specs.declared.exporting.Version.{Version}
use Rattle.feed_edit.specs.declared.importing.ImportMode.{ImportMode}
use Rattle.feed_edit.specs.declared.room.Room.{Room}
use Rattle.feed_edit.specs.declared.fault.ExportFault.{ExportFault}
use Rattle.feed_edit.specs.declared.fault.ImportFault.{ImportFault}
use Rattle.feed_edit.specs.declared.fault.MergeFault.{MergeFault}
use Rattle.feed_edit.specs.declared.fault.MergeFault.TheVariants as merges
use Rattle.feed_sites.specs.Renewing.{IsNotRenewed}
use Rattle.feed_sites.specs.declared.renew_fault.RenewFault.{RenewFault}
use Rattle.feed_sites.specs.Renumbering.{IsUnrenumbered}
use Rattle.feed_sites.specs.declared.fault.RenumberFault.{RenumberFault}
use Rattle.program_desk.specs.Causes.{export_cause, import_cause, merge_cause, renew_cause, renumber_cause}
use Rattle.program_desk.specs.Explained.{AreLines, IsSilent, Reports, TellsOf}
use Rattle.program_desk.specs.Told.{Tells}

-- the status of a merge that was done, by whether words are to be reviewed, and whether none is open
abbrev pub status_of : Bool → Bool → ℕ
status_of review clean = if review && not clean then 1 else 0

-- feeds were merged; and where words are to be reviewed none is open
abbrev pub IsMergedAs : List ℕ → List (List ℕ) → Bool → Bool → Shelf → Shelf → Option (List ℕ) → Option (List ℕ)
    → Type 0
IsMergedAs name others forks review first last before after =
    (clean : Bool) × IsMerged name others forks first last before after clean × (review ≡ true → clean ≡ true)

-- the line on a number that was used twice, where there is memory for it
abbrev pub IsForkLine : {A : Type 0} → List (Bor Text) → MergeFault A → List ℕ → Type 0
IsForkLine others (merges.Take why) line = line ≡ []
IsForkLine others (merges.Other at why) line = line ≡ []
IsForkLine others (merges.Forks at stamps) line =
    (line ≡ []) ⊎ ((name : Bor Text) × (slice_get others at ≡ Some name) × (line ≡ forks_line name.now stamps))
IsForkLine others (merges.Keep why) line = line ≡ []

-- standard error has the lines on a merge that was not done
abbrev pub TellsMerge : {A : Type 0} → Bor Text → List (Bor Text) → MergeFault A → Bool → Option (List ℕ)
    → Option (List ℕ) → Type 0
TellsMerge feed others fault whole quiet said = (lines : List ℕ) × (more : List ℕ)
    × AreLines true (merge_cause feed others fault) lines × IsForkLine others fault more
    × Tells whole quiet said (lines ++ more)

-- feeds were not merged; or they were, words are to be reviewed, and one is open
abbrev pub IsNotMerged : Bor Text → List (Bor Text) → Bool → Bool → Shelf → Shelf → Option (List ℕ) → Option (List ℕ)
    → Bool → Option (List ℕ) → Option (List ℕ) → Type 0
IsNotMerged feed others forks review first last before after whole quiet said =
    ((fault : MergeFault Global) × IsUnmerged feed.now (texts_of others) forks first last before after fault
    × TellsMerge feed others fault whole quiet said)
    ⊎ ((review ≡ true) × IsMerged feed.now (texts_of others) forks first last before after false
    × IsSilent whole quiet said)

-- a copy was not written as text, and no file has changed
abbrev pub IsNotExported : Version → Shelf → Shelf → Option (List ℕ) → Option (List ℕ)
    → Bool → Option (List ℕ) → Option (List ℕ) → Type 0
IsNotExported version first last before after whole quiet said = Stays first last × (fault : ExportFault)
    × IsUnexported version first last before after fault × Reports (export_cause version.feed fault) whole quiet said

-- a copy was not made a text
abbrev pub IsNotImported : Room → ImportMode → Shelf → Shelf → Option (List ℕ) → Option (List ℕ) → Option (List ℕ)
    → Bool → Option (List ℕ) → Option (List ℕ) → Type 0
IsNotImported room mode first last input before after whole quiet said =
    (fault : ImportFault) × IsUnimported room mode first last input before after fault
    × TellsOf true (import_cause room.feed room.site fault) whole quiet said

-- no new feed was made of a stored one
abbrev pub IsNotMadeAnew : Bor Text → Bor Text → Shelf → Shelf → Option (List ℕ) → Option (List ℕ)
    → Bool → Option (List ℕ) → Option (List ℕ) → Type 0
IsNotMadeAnew new feed first last before after whole quiet said = (fault : RenewFault)
    × IsNotRenewed new.now feed.now first last before after fault
    × TellsOf true (renew_cause new feed fault) whole quiet said

-- operations of a feed got no other number
abbrev pub IsNotNumbered : Bor Text → Bor Text → ℕ → Shelf → Shelf → Option (List ℕ) → Option (List ℕ)
    → Bool → Option (List ℕ) → Option (List ℕ) → Type 0
IsNotNumbered feed other site first last before after whole quiet said = (fault : RenumberFault)
    × IsUnrenumbered feed.now other.now site first last before after fault
    × TellsOf true (renumber_cause feed other site fault) whole quiet said
