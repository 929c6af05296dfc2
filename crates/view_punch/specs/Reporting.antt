-- The sorts of a stored feed's copy by a case, written as text.
use Rattle.std.specs.Prelude.{◌≡◌, ◌⊎◌, ℕ, Bool, List, Option}
use Rattle.std.specs.Io.KnownBytes.{Appends}
use Rattle.desk_ops.specs.OpSet.{OpSet}
use Rattle.desk_ops.specs.Shown.{copy_of}
use Rattle.desk_case.specs.Case.{CaseValues}
use Rattle.feed_files.specs.Files.{Shelf}
use Rattle.feed_stored.specs.Sending.{WritesPrefix}
use Rattle.feed_edit.specs.declared.exporting.Version.{Version}
use Rattle.view_preview.specs.Sources.{of_sources}
use Rattle.view_preview.specs.declared.fault.PreviewFault.{PreviewFault}
use Rattle.view_preview.specs.declared.fault.PreviewFault.TheVariants as faults
use Rattle.view_preview.specs.declared.fault.SourcesFault.{SourcesFault}
use Rattle.view_punch.specs.SortsSources.{AreRefused, Give}
use Rattle.view_punch.specs.Reported.{IsReportedOf}

-- what is reported of what the sources give
abbrev pub IsListOf : Version → List ℕ → Shelf → Bool → List ℕ → Bool → Type 0
IsListOf version name shelf layout reported complete = (set : OpSet) × (case : CaseValues)
    × Give version name shelf set case
    × IsReportedOf (copy_of set) case layout reported complete

-- it was written
abbrev pub AreListed : Version → List ℕ → Bool → Shelf → Option (List ℕ) → Option (List ℕ) → Bool → Type 0
AreListed version name layout shelf before after complete = (reported : List ℕ)
    × IsListOf version name shelf layout reported complete × Appends before after reported

-- Why not all of it was written, and what was: nothing, where the two give nothing, or memory ran out once they had
-- given both; or a prefix, under Write.
abbrev pub AreUnlisted : Version → List ℕ → Bool → Shelf → Shelf → Option (List ℕ) → Option (List ℕ) → PreviewFault
    → Type 0
AreUnlisted version name layout first last before after fault =
    ((after ≡ before) × (why : SourcesFault) × (fault ≡ of_sources why) × AreRefused version name first last why)
    ⊎ ((after ≡ before) × (fault ≡ faults.NoMemory) × (last ≡ first) × (set : OpSet) × (case : CaseValues)
    × Give version name first set case)
    ⊎ ((fault ≡ faults.Write) × (last ≡ first) × (reported : List ℕ) × (complete : Bool)
    × IsListOf version name first layout reported complete × WritesPrefix before after reported)
