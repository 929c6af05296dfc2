-- What a reading is made of: a ribbon, a case and a wedge.
use Rattle.std.specs.Prelude.{◌≡◌, ◌≢◌, ◌⊎◌, ℕ, List, Ok, Err}
use Rattle.desk_case.specs.Case.{CaseValues}
use Rattle.desk_wedge.specs.Wedge.{WedgeValues}
use Rattle.script_answers.specs.declared.failure.Failure.{Failure}
use Rattle.script_answers.specs.declared.failure.Failure.TheVariants as failures
use Rattle.feed_files.specs.Files.{IsCounted, Reads, Shelf}
use Rattle.feed_files.specs.declared.files.FileRefusal.{FileRefusal}
use Rattle.feed_files.specs.declared.files.FileRefusal.TheVariants as files
use Rattle.script_answers.specs.Inputs.{BothGive, BothLackMemory}
use Rattle.view_ribbon.specs.declared.sources.Sources.{Sources}
use Rattle.view_ribbon.specs.declared.fault.ReadingFault.{ReadingFault}
use Rattle.view_ribbon.specs.declared.fault.ReadingFault.TheVariants as faults
use Rattle.view_ribbon.specs.declared.fault.SourcesFault.{SourcesFault}
use Rattle.view_ribbon.specs.declared.fault.SourcesFault.TheVariants as refusals

-- what a ribbon's file that is not read is for the sources of a reading
abbrev pub of_ribbon : FileRefusal → SourcesFault
of_ribbon files.Missing = refusals.Ribbon files.Missing
of_ribbon files.Device = refusals.Ribbon files.Device
of_ribbon files.Large = refusals.Ribbon files.Large
of_ribbon files.NoMemory = refusals.NoMemory

-- what a case or a wedge that is not given is for them
abbrev pub of_input : Failure → SourcesFault
of_input (failures.Refused why) = refusals.Input why
of_input failures.NoMemory = refusals.NoMemory

-- what sources that give nothing are for a reading
abbrev pub of_sources : SourcesFault → ReadingFault
of_sources (refusals.Ribbon why) = faults.Ribbon why
of_sources (refusals.Input why) = faults.Input why
of_sources refusals.NoMemory = faults.NoMemory

-- the ribbon's name stands for these bytes, and the two files give this case and this wedge
abbrev pub Give : Sources → Shelf → List ℕ → CaseValues → WedgeValues → Type 0
Give from shelf bytes case wedge = Reads (shelf.kept from.ribbon.now) (Ok bytes)
    × BothGive from.case.now from.wedge.now shelf (Ok (case, wedge)) shelf

-- they give bytes, a case and a wedge
abbrev pub GiveAll : Sources → Shelf → Type 0
GiveAll from shelf = (bytes : List ℕ) × (case : CaseValues) × (wedge : WedgeValues) × Give from shelf bytes case wedge

-- why they give nothing: the ribbon is not read; or it is, and then the case or the wedge is refused; or memory runs
-- out by one of the three, and the device did not fail
abbrev pub AreRefused : Sources → Shelf → Shelf → SourcesFault → Type 0
AreRefused from before after (refusals.Ribbon why) =
    (why ≢ files.NoMemory) × Reads (before.kept from.ribbon.now) (Err why)
    × IsCounted why before after
AreRefused from before after (refusals.Input why) = (bytes : List ℕ) × Reads (before.kept from.ribbon.now) (Ok bytes)
    × BothGive from.case.now from.wedge.now before (Err why) after
AreRefused from before after refusals.NoMemory =
    (Reads (before.kept from.ribbon.now) (Err files.NoMemory) × (after ≡ before))
    ⊎ ((bytes : List ℕ) × Reads (before.kept from.ribbon.now) (Ok bytes)
    × BothLackMemory from.case.now from.wedge.now before after)
