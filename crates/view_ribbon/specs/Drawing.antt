-- The picture of a ribbon's file, stored under a name.
use Rattle.std.specs.Prelude.{◌≡◌, ◌≢◌, ◌⊎◌, ℕ, Bool, true, false, List, Option}
use Rattle.desk_signals.specs.declared.RibbonRow.{RibbonRow}
use Rattle.desk_case.specs.Case.{CaseValues}
use Rattle.desk_wedge.specs.Wedge.{WedgeValues}
use Rattle.desk_caster.specs.Reading.{IsRibbon, Reports}
use Rattle.desk_caster.specs.declared.RibbonFault.{RibbonFault}
use Rattle.desk_caster.specs.declared.RibbonFault.TheVariants as ribbons
use Rattle.feed_files.specs.Files.{IsReplaced, Shelf, Stays}
use Rattle.feed_files.specs.Outputs.{Destination, GivesWay, IsNotPut}
use Rattle.feed_files.specs.declared.output_fault.OutputFault.{OutputFault}
use Rattle.feed_files.specs.declared.output_fault.OutputFault.TheVariants as outputs
use Rattle.feed_files.specs.declared.kinds.Kind.TheVariants as kinds
use Rattle.view_ribbon.specs.Sources.{AreRefused, Give, GiveAll, of_sources}
use Rattle.view_ribbon.specs.declared.extent.Lines.{Lines}
use Rattle.view_ribbon.specs.declared.sources.Sources.{Sources}
use Rattle.view_ribbon.specs.declared.fault.ReadingFault.{ReadingFault}
use Rattle.view_ribbon.specs.declared.fault.ReadingFault.TheVariants as faults
use Rattle.view_ribbon.specs.declared.fault.SourcesFault.{SourcesFault}
use Rattle.view_ribbon.specs.Picture.{picture_text}

-- this is the picture of the rows whose ribbon the bytes are, or of those of lines, by a case
abbrev pub IsPicture : Option Lines → List ℕ → CaseValues → List ℕ → Type 0
IsPicture lines bytes case picture =
    (rows : List RibbonRow) × IsRibbon bytes rows × (picture ≡ picture_text lines rows case)

-- so it is of the bytes that the ribbon's name stands for, by the case that the one file gives
abbrev pub IsPictureOf : Sources → Option Lines → Shelf → List ℕ → Type 0
IsPictureOf from lines shelf picture = (bytes : List ℕ) × (case : CaseValues) × (wedge : WedgeValues)
    × Give from shelf bytes case wedge × IsPicture lines bytes case picture

-- bytes are no ribbon, for their first fault
abbrev pub IsNoRibbon : List ℕ → Type 0
IsNoRibbon bytes = (why : RibbonFault) × Reports bytes why × (why ≢ ribbons.NoMemory)

-- those that the ribbon's name stands for are none
abbrev pub HasNoPicture : Sources → Shelf → Type 0
HasNoPicture from shelf = (bytes : List ℕ) × (case : CaseValues) × (wedge : WedgeValues)
    × Give from shelf bytes case wedge × IsNoRibbon bytes

-- the target, where nothing stood but a picture, or which is forced, stands for the picture
abbrev pub IsStored : Sources → Option Lines → Destination → Shelf → Shelf → Type 0
IsStored from lines to before after =
    (picture : List ℕ) × IsPictureOf from lines before picture × GivesWay to kinds.Picture before.kept
    × IsReplaced to.name picture before.kept after.kept

-- it does; or there is no picture, and no file has changed
abbrev pub IsDrawn : Sources → Option Lines → Destination → Shelf → Shelf → Bool → Type 0
IsDrawn from lines to before after true = IsStored from lines to before after
IsDrawn from lines to before after false = HasNoPicture from before × (after ≡ before)

-- what a picture that is not stored is for a drawing
abbrev pub of_output : OutputFault → ReadingFault
of_output (outputs.Taken kind) = faults.Taken kind
of_output (outputs.File why) = faults.Unstored why

-- Why no picture was stored: the sources give nothing; or memory ran out once they had given all; or it was made, and
-- not stored. No file has changed but, in that last case, that of the writing.
abbrev pub IsUndrawn : Sources → Option Lines → Destination → Shelf → Shelf → ReadingFault → Type 0
IsUndrawn from lines to first last fault =
    (Stays first last × (why : SourcesFault) × (fault ≡ of_sources why) × AreRefused from first last why)
    ⊎ ((fault ≡ faults.NoMemory) × (last ≡ first) × GiveAll from first)
    ⊎ ((why : OutputFault) × (fault ≡ of_output why) × (picture : List ℕ) × IsPictureOf from lines first picture
    × IsNotPut to kinds.Picture first last why)
