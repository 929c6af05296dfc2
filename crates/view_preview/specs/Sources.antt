-- What a preview is made of: a stored feed, a case and a wedge.
use Rattle.std.specs.Prelude.{◌≡◌, ◌⊎◌, Ok, Err}
use Rattle.desk_ops.specs.OpSet.{OpSet}
use Rattle.desk_case.specs.Case.{CaseValues}
use Rattle.desk_wedge.specs.Wedge.{WedgeValues}
use Rattle.script_answers.specs.declared.failure.Failure.{Failure}
use Rattle.script_answers.specs.declared.failure.Failure.TheVariants as failures
use Rattle.feed_files.specs.Files.{Shelf}
use Rattle.feed_edit.specs.Exporting.{IsUnversioned, IsVersion}
use Rattle.script_answers.specs.Inputs.{BothGive, BothLackMemory}
use Rattle.view_preview.specs.declared.sources.Sources.{Sources}
use Rattle.view_preview.specs.declared.fault.PreviewFault.{PreviewFault}
use Rattle.view_preview.specs.declared.fault.PreviewFault.TheVariants as faults
use Rattle.view_preview.specs.declared.fault.SourcesFault.{SourcesFault}
use Rattle.view_preview.specs.declared.fault.SourcesFault.TheVariants as refusals

-- what a case or a wedge that is not given is for the sources of a preview
abbrev pub of_input : Failure → SourcesFault
of_input (failures.Refused why) = refusals.Input why
of_input failures.NoMemory = refusals.NoMemory

-- what sources that give nothing are for a preview
abbrev pub of_sources : SourcesFault → PreviewFault
of_sources (refusals.Feed why) = faults.Feed why
of_sources refusals.TooLong = faults.TooLong
of_sources (refusals.Text why) = faults.Text why
of_sources (refusals.Input why) = faults.Input why
of_sources refusals.NoMemory = faults.NoMemory

-- the version of the feed has this set, and the two files give this case and this wedge
abbrev pub Give : Sources → Shelf → OpSet → CaseValues → WedgeValues → Type 0
Give from shelf set case wedge = IsVersion from.version shelf set
    × BothGive from.case.now from.wedge.now shelf (Ok (case, wedge)) shelf

-- they give a set, a case and a wedge
abbrev pub GiveAll : Sources → Shelf → Type 0
GiveAll from shelf = (set : OpSet) × (case : CaseValues) × (wedge : WedgeValues) × Give from shelf set case wedge

-- why they give nothing: the feed is not opened; or it is, and then the case or the wedge is refused, or memory runs
-- out by one of them
abbrev pub AreRefused : Sources → Shelf → Shelf → SourcesFault → Type 0
AreRefused from before after (refusals.Feed why) = IsUnversioned from.version before after why
AreRefused from before after refusals.TooLong = ⊥
AreRefused from before after (refusals.Text why) = ⊥
AreRefused from before after (refusals.Input why) = (set : OpSet) × IsVersion from.version before set
    × BothGive from.case.now from.wedge.now before (Err why) after
AreRefused from before after refusals.NoMemory = (set : OpSet) × IsVersion from.version before set
    × BothLackMemory from.case.now from.wedge.now before after

-- memory ran out by the case or the wedge, or once all was given, and then no file has changed and the device did not
-- fail
abbrev pub LackMemory : Sources → Shelf → Shelf → Type 0
LackMemory from before after = AreRefused from before after refusals.NoMemory ⊎ ((after ≡ before) × GiveAll from before)
