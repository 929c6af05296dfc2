-- The difference of two stored feeds, written as text.
use Rattle.std.specs.Prelude.{◌≡◌, ℕ, Bool, List, Option}
use Rattle.std.specs.Io.KnownBytes.{Appends}
use Rattle.desk_ops.specs.OpSet.{OpSet}
use Rattle.feed_files.specs.Files.{Shelf}
use Rattle.feed_stored.specs.Sending.{WritesPrefix}
use Rattle.feed_edit.specs.Exporting.{IsClosedBy, IsSetOf, IsUnversioned, IsVersion}
use Rattle.feed_edit.specs.declared.exporting.Version.{Version}
use Rattle.feed_sites.specs.Reported.{Reports}
use Rattle.feed_sites.specs.declared.difference_fault.DifferenceFault.{DifferenceFault}
use Rattle.feed_sites.specs.declared.difference_fault.DifferenceFault.TheVariants as faults

-- why a version of a feed and another feed are not opened
abbrev pub IsUnopened : Version → List ℕ → Shelf → Shelf → DifferenceFault → Type 0
IsUnopened one other first last (faults.One why) = IsUnversioned one first last why
IsUnopened one other first last (faults.Other why) = (set : OpSet) × IsVersion one first set
    × IsClosedBy other first last why
IsUnopened one other first last faults.Write = ⊥
IsUnopened one other first last faults.NoMemory = ⊥

-- what is said of two sets was written
abbrev pub IsWritten : List ℕ → List ℕ → OpSet → OpSet → Option (List ℕ) → Option (List ℕ) → Bool → Type 0
IsWritten one other first second before after same = (reported : List ℕ) × Reports one other first second reported same
    × Appends before after reported

-- why not all of it was written, and what was: nothing, or under Write a prefix
abbrev pub IsUnwritten : List ℕ → List ℕ → OpSet → OpSet → Option (List ℕ) → Option (List ℕ) → DifferenceFault → Type 0
IsUnwritten one other first second before after (faults.One why) = ⊥
IsUnwritten one other first second before after (faults.Other why) = ⊥
IsUnwritten one other first second before after faults.Write = (reported : List ℕ) × (same : Bool)
    × Reports one other first second reported same × WritesPrefix before after reported
IsUnwritten one other first second before after faults.NoMemory = after ≡ before

-- what is reported of the set of a version and of that which another name stands for
abbrev pub IsDifference : Version → List ℕ → Shelf → List ℕ → Bool → Type 0
IsDifference one other shelf reported same =
    (first second : OpSet) × IsVersion one shelf first × IsSetOf other shelf second
    × Reports one.feed.now other first second reported same

-- it was written
abbrev pub IsReported : Version → List ℕ → Shelf → Option (List ℕ) → Option (List ℕ) → Bool → Type 0
IsReported one other shelf before after same = (reported : List ℕ) × IsDifference one other shelf reported same
    × Appends before after reported

-- why not all of it was written, and what was: nothing, or under Write a prefix. Write and out of memory come where
-- both feeds were opened and no file call failed
abbrev pub IsUnreported : Version → List ℕ → Shelf → Shelf → Option (List ℕ) → Option (List ℕ) → DifferenceFault
    → Type 0
IsUnreported one other first last before after (faults.One why) = (after ≡ before) × IsUnversioned one first last why
IsUnreported one other first last before after (faults.Other why) =
    (after ≡ before) × (set : OpSet) × IsVersion one first set × IsClosedBy other first last why
IsUnreported one other first last before after faults.Write = (last.failures ≡ first.failures) × (reported : List ℕ)
    × (same : Bool) × IsDifference one other first reported same × WritesPrefix before after reported
IsUnreported one other first last before after faults.NoMemory =
    (after ≡ before) × (last.failures ≡ first.failures) × (set others : OpSet) × IsVersion one first set
    × IsSetOf other first others
