-- What a reading of a ribbon and a list of sorts have done, what they left, and what standard error has.
use Rattle.std.specs.Prelude.{◌≡◌, ◌≢◌, ◌⊎◌, ℕ, Bool, true, false, List, Option, Some, None}
use Rattle.std.specs.Borrow.{Bor}
use Rattle.std.specs.Option.{option_copied}
use Rattle.feed_files.specs.Files.{Shelf, Stays}
use Rattle.view_ribbon.specs.Drawing.{IsDrawn, IsUndrawn}
use Rattle.feed_files.specs.Outputs.{destination}
use Rattle.view_ribbon.specs.Reading.{IsRead, IsUnread}
use Rattle.view_ribbon.specs.declared.extent.Extent.{Extent}
use Rattle.view_ribbon.specs.declared.extent.Extent.TheVariants as extents
use Rattle.view_ribbon.specs.declared.extent.Lines.{Lines}
use Rattle.view_ribbon.specs.declared.sources.Sources.{Sources}
use Rattle.view_ribbon.specs.declared.fault.ReadingFault.{ReadingFault}
use Rattle.view_ribbon.specs.declared.fault.ReadingFault.TheVariants as faults
use Rattle.view_punch.specs.Reporting.{AreListed, AreUnlisted}
use Rattle.feed_edit.specs.declared.exporting.Version.{Version}
use Rattle.view_preview.specs.declared.fault.PreviewFault.{PreviewFault}
use Rattle.program_desk.specs.Causes.{reading_cause, sorts_cause}
use Rattle.program_desk.specs.Explained.{IsSilent, Reports, ReportsMore, StaysSo, TellsOf}
use Rattle.program_desk.specs.Depicting.{IsSource}
use Rattle.program_desk.specs.declared.causes.Cause.TheVariants as causes
use Rattle.program_desk.specs.declared.causes.Output.TheVariants as outputs
use Rattle.program_desk.specs.declared.readings.Reading.{Reading}

-- ---- a ribbon

-- the lines that a picture has, or nothing where it has all
abbrev pub lines_of : Extent → Option Lines
lines_of (extents.Lines lines) = lines
lines_of (extents.Figures pitch) = None

-- the reading was written, and the ribbon is cast whole or not; no file has changed
abbrev pub IsReadOut : Reading → Shelf → Shelf → Option (List ℕ) → Option (List ℕ) → Bool → Type 0
IsReadOut asked first last before after whole =
    Stays first last × IsRead asked.from asked.extent first before after whole

-- it was not written, for this fault
abbrev pub IsNotReadOut : Reading → Shelf → Shelf → Option (List ℕ) → Option (List ℕ) → ReadingFault → Type 0
IsNotReadOut asked first last before after fault =
    Stays first last × IsUnread asked.from asked.extent first last before after fault

-- the picture that is asked for stands under its name, if one is; it took the place of another file only by force
abbrev pub AreHolesThere : Reading → Option (List ℕ) → Shelf → Shelf → Type 0
AreHolesThere asked None first last = last ≡ first
AreHolesThere asked (Some target) first last =
    IsDrawn asked.from (lines_of asked.extent) (destination target asked.force) first last true

-- one is asked for, and it does not: the bytes are no ribbon, or it was not made or not stored, and what was written on
-- standard error goes on by the lines on the fault
abbrev pub AreHolesAbsent : Reading → Option (Bor (List ℕ)) → Shelf → Shelf → Bool → Bool → Option (List ℕ)
    → Option (List ℕ) → Type 0
AreHolesAbsent asked None first last begun whole quiet said = ⊥
AreHolesAbsent asked (Some target) first last begun whole quiet said =
    (IsDrawn asked.from (lines_of asked.extent) (destination target.now asked.force) first last false
    × StaysSo begun whole quiet said)
    ⊎ ((fault : ReadingFault)
    × IsUndrawn asked.from (lines_of asked.extent) (destination target.now asked.force) first last fault
    × ReportsMore (reading_cause asked.from target fault) begun whole quiet said)

-- the reading of a ribbon that is cast whole was written, and then the picture was stored, if one is asked for
abbrev pub IsReadWhole : Reading → Shelf → Shelf → Option (List ℕ) → Option (List ℕ) → Type 0
IsReadWhole asked first last before after =
    (middle : Shelf) × IsReadOut asked first middle before after true
    × AreHolesThere asked (option_copied asked.picture) middle last

-- a picture is asked for, and its name is one of those of what it is made of; standard error says so
abbrev pub TakesSource : Sources → Option (Bor (List ℕ)) → Bool → Option (List ℕ) → Option (List ℕ) → Type 0
TakesSource from None whole quiet said = ⊥
TakesSource from (Some target) whole quiet said =
    IsSource from.ribbon.now from.case.now from.wedge.now target.now
    × TellsOf true (causes.Source target outputs.Picture) whole quiet said

-- standard error has the lines on a fault of a reading, which has no target
abbrev pub ReportsReading : Sources → ReadingFault → Bool → Option (List ℕ) → Option (List ℕ) → Type 0
ReportsReading from fault whole quiet said =
    (target : Bor (List ℕ)) × Reports (reading_cause from target fault) whole quiet said

-- Why the status is 1. Nothing was begun, since the picture would take the place of what it is made of. Or the reading
-- was not written, for another fault than that of the writer; or the writer failed, and the picture was stored all the
-- same, or not; or the reading was written, and the picture not stored; or both were, and the ribbon has a fault, of
-- which standard error has nothing.
abbrev pub IsNotReadWhole : Reading → Shelf → Shelf → Option (List ℕ) → Option (List ℕ) → Bool → Option (List ℕ)
    → Option (List ℕ) → Type 0
IsNotReadWhole asked first last before after whole quiet said =
    (TakesSource asked.from asked.picture whole quiet said × (last ≡ first) × (after ≡ before))
    ⊎ ((fault : ReadingFault) × (fault ≢ faults.Write) × IsNotReadOut asked first last before after fault
    × ReportsReading asked.from fault whole quiet said)
    ⊎ ((middle : Shelf) × (begun : Bool) × (between : Option (List ℕ))
    × IsNotReadOut asked first middle before after faults.Write
    × Reports causes.ReportOutput begun quiet between
    × ((AreHolesThere asked (option_copied asked.picture) middle last × StaysSo begun whole between said)
    ⊎ AreHolesAbsent asked asked.picture middle last begun whole between said))
    ⊎ ((middle : Shelf) × (cast : Bool) × IsReadOut asked first middle before after cast
    × AreHolesAbsent asked asked.picture middle last true whole quiet said)
    ⊎ ((middle : Shelf) × IsReadOut asked first middle before after false
    × AreHolesThere asked (option_copied asked.picture) middle last × IsSilent whole quiet said)

-- ---- sorts

-- the list was written, and the case has every sort or not; no file has changed
abbrev pub IsListed : Version → List ℕ → Bool → Shelf → Shelf → Option (List ℕ) → Option (List ℕ) → Bool → Type 0
IsListed version case layout first last before after complete =
    Stays first last × AreListed version case layout first before after complete

-- it was written, and a sort is missing; or it was not written, and standard error has the lines on the fault
abbrev pub IsNotListed : Version → Bor (List ℕ) → Bool → Shelf → Shelf → Option (List ℕ) → Option (List ℕ)
    → Bool → Option (List ℕ) → Option (List ℕ) → Type 0
IsNotListed version case layout first last before after whole quiet said =
    (IsListed version case.now layout first last before after false × IsSilent whole quiet said)
    ⊎ (Stays first last × (fault : PreviewFault)
    × AreUnlisted version case.now layout first last before after fault
    × Reports (sorts_cause version.feed case fault) whole quiet said)
