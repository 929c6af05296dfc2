-- The reading of a ribbon's file, written as text.
use Rattle.std.specs.Prelude.{◌≡◌, ◌⊎◌, ℕ, Bool, List, Option}
use Rattle.std.specs.Io.KnownBytes.{Appends}
use Rattle.desk_case.specs.Case.{CaseValues}
use Rattle.desk_wedge.specs.Wedge.{WedgeValues}
use Rattle.feed_files.specs.Files.{Shelf}
use Rattle.feed_stored.specs.Sending.{WritesPrefix}
use Rattle.view_ribbon.specs.Sources.{AreRefused, Give, GiveAll, of_sources}
use Rattle.view_ribbon.specs.Reported.{IsReported}
use Rattle.view_ribbon.specs.declared.extent.Extent.{Extent}
use Rattle.view_ribbon.specs.declared.sources.Sources.{Sources}
use Rattle.view_ribbon.specs.declared.fault.ReadingFault.{ReadingFault}
use Rattle.view_ribbon.specs.declared.fault.ReadingFault.TheVariants as faults
use Rattle.view_ribbon.specs.declared.fault.SourcesFault.{SourcesFault}

-- what is reported of the bytes that the ribbon's name stands for, by the case and the wedge that the two files give
abbrev pub IsReadingOf : Sources → Extent → Shelf → List ℕ → Bool → Type 0
IsReadingOf from extent shelf reported whole =
    (bytes : List ℕ) × (case : CaseValues) × (wedge : WedgeValues) × Give from shelf bytes case wedge
    × IsReported bytes case wedge extent reported whole

-- it was written
abbrev pub IsRead : Sources → Extent → Shelf → Option (List ℕ) → Option (List ℕ) → Bool → Type 0
IsRead from extent shelf before after whole = (reported : List ℕ) × IsReadingOf from extent shelf reported whole
    × Appends before after reported

-- Why not all of it was written, and what was: nothing, where the sources give nothing, or memory ran out once they had
-- given all; or a prefix, under Write.
abbrev pub IsUnread : Sources → Extent → Shelf → Shelf → Option (List ℕ) → Option (List ℕ) → ReadingFault → Type 0
IsUnread from extent first last before after fault =
    ((after ≡ before) × (why : SourcesFault) × (fault ≡ of_sources why) × AreRefused from first last why)
    ⊎ ((after ≡ before) × (fault ≡ faults.NoMemory) × (last ≡ first) × GiveAll from first)
    ⊎ ((fault ≡ faults.Write) × (last ≡ first) × (reported : List ℕ) × (whole : Bool)
    × IsReadingOf from extent first reported whole × WritesPrefix before after reported)
