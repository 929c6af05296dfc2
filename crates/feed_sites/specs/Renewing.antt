-- A new feed, with the copy and the settings of a stored one.
use Rattle.std.specs.Prelude.{◌≡◌, ◌⊎◌, ℕ, List, [], ◌∷◌, ◌++◌, Option, Result, Ok, Err, codes, length}
use Rattle.std.specs.Fmt.{decimal}
use Rattle.std.specs.Io.KnownBytes.{Appends}
use Rattle.desk_ops.specs.OpSet.{OpSet}
use Rattle.desk_ops.specs.Shown.{copy_of}
use Rattle.desk_codec.specs.Runs.{set_feed}
use Rattle.feed_files.specs.Files.{IsNowHeld, IsReplaced, Reads, Shelf, Stays, new_name}
use Rattle.feed_files.specs.declared.files.FileRefusal.{FileRefusal}
use Rattle.feed_files.specs.declared.files.FileRefusal.TheVariants as refusals
use Rattle.feed_edit.specs.Exporting.{IsClosedBy, IsSetOf}
use Rattle.feed_edit.specs.Keeping.{IsUnkept}
use Rattle.feed_edit.specs.Merging.{IsBarred}
use Rattle.feed_sites.specs.Anew.{IsAnew}
use Rattle.feed_sites.specs.declared.renew_fault.RenewFault.{RenewFault}
use Rattle.feed_sites.specs.declared.renew_fault.RenewFault.TheVariants as faults

-- the line of how many symbols the copy of the new feed has
abbrev pub renewed_line : ℕ → List ℕ
renewed_line count = codes "ok renewed " ++ decimal count ++ 10 ∷ []

-- ---- the name of the new feed

-- a read says that a file is there: it gave the bytes, or these are too many
abbrev pub SaysThere : Result (List ℕ) FileRefusal → Type 0
SaysThere (Ok bytes) = Unit {0}
SaysThere (Err refusals.Missing) = ⊥
SaysThere (Err refusals.Device) = ⊥
SaysThere (Err refusals.Large) = Unit {0}
SaysThere (Err refusals.NoMemory) = ⊥

-- a name was taken, and then no file was read under it
abbrev pub IsFree : List ℕ → Shelf → Shelf → Type 0
IsFree name first held = IsNowHeld name first held × Reads (held.kept name) (Err refusals.Missing)

-- a name was taken, and then a read said that a file is there
abbrev pub IsInUse : List ℕ → Shelf → Shelf → Type 0
IsInUse name first held = IsNowHeld name first held × (read : Result (List ℕ) FileRefusal) × Reads (held.kept name) read
    × SaysThere read

-- why a name is not free for a new feed
abbrev pub IsNotFree : List ℕ → Shelf → Shelf → RenewFault → Type 0
IsNotFree name first last (faults.Take why) = IsBarred name first last why
IsNotFree name first last faults.There = IsInUse name first last
IsNotFree name first last (faults.Feed why) = ⊥
IsNotFree name first last (faults.Keep why) = ⊥

-- ---- a new feed

-- The name was free. Under the other one stands the feed of a set; a site made its copy and its settings anew. The
-- line was written, and the new feed stands under the name.
abbrev pub IsRenewed : List ℕ → List ℕ → ℕ → Shelf → Shelf → Option (List ℕ) → Option (List ℕ) → Type 0
IsRenewed new feed site first last before after =
    (held : Shelf) × IsFree new first held × (old : OpSet) × IsSetOf feed held old × (set : OpSet) × IsAnew site old set
    × Appends before after (renewed_line (length (copy_of old))) × IsReplaced new (set_feed set) held.kept last.kept
    × (last.failures ≡ held.failures)

-- Why no new feed was made, and what is left. `There`: a file stands under the name, or the old feed stands where the
-- new one would be written. Until the feed was opened nothing was written, and no file has changed.
abbrev pub IsNotRenewed : List ℕ → List ℕ → Shelf → Shelf → Option (List ℕ) → Option (List ℕ) → RenewFault → Type 0
IsNotRenewed new feed first last before after (faults.Take why) = (after ≡ before) × IsBarred new first last why
IsNotRenewed new feed first last before after faults.There =
    (after ≡ before) × (((feed ≡ new_name new) × (last ≡ first)) ⊎ IsInUse new first last)
IsNotRenewed new feed first last before after (faults.Feed why) = (after ≡ before) × (held : Shelf)
    × IsFree new first held × Stays held last × IsClosedBy feed held last why
IsNotRenewed new feed first last before after (faults.Keep why) =
    (held : Shelf) × IsFree new first held × (old : OpSet) × IsSetOf feed held old
    × IsUnkept new (renewed_line (length (copy_of old))) held last before after why
