-- The ribbon of stored feeds, one galley after the other, stored under a name; or why there is none.
use Rattle.std.specs.Prelude.{◌≡◌, ◌⊎◌, ◌≤◌, ℕ, suc, Bool, List, [], ◌∷◌, ◌++◌, length, Option, None, Ok}
use Rattle.std.specs.Borrow.{Bor}
use Rattle.desk_ops.specs.OpSet.{OpSet}
use Rattle.desk_ops.specs.Settings.{setting_of}
use Rattle.desk_ops.specs.Shown.{copy_of}
use Rattle.desk_signals.specs.declared.RibbonRow.{RibbonRow}
use Rattle.desk_case.specs.Case.{CaseValues}
use Rattle.desk_wedge.specs.Wedge.{WedgeValues}
use Rattle.desk_ribbon.specs.Ribbon.{ribbon}
use Rattle.desk_caster.specs.Caster.{Line, cast}
use Rattle.desk_caster.specs.Reading.{IsRibbon}
use Rattle.desk_job.specs.Job.{lines, terms_of, values_of}
use Rattle.desk_job.specs.Reading.{AreLines}
use Rattle.desk_job.specs.declared.terms.Values.{Values}
use Rattle.feed_files.specs.Files.{Has, IsReplaced, Shelf, Stays, max_file}
use Rattle.feed_files.specs.Outputs.{Destination, GivesWay, IsNotPut}
use Rattle.feed_files.specs.declared.output_fault.OutputFault.{OutputFault}
use Rattle.feed_files.specs.declared.kinds.Kind.TheVariants as kinds
use Rattle.feed_edit.specs.Exporting.{IsClosedBy, IsSetOf}
use Rattle.feed_edit.specs.declared.fault.FeedTrouble.{FeedTrouble}
use Rattle.script_answers.specs.Inputs.{BothGive}
use Rattle.view_preview.specs.Faults.{of_output}
use Rattle.view_preview.specs.Sources.{AreRefused, of_sources}
use Rattle.view_preview.specs.declared.fault.PreviewFault.{PreviewFault}
use Rattle.view_preview.specs.declared.fault.PreviewFault.TheVariants as faults
use Rattle.view_preview.specs.declared.fault.SourcesFault.{SourcesFault}
use Rattle.view_preview.specs.declared.sources.Sources.{Sources}
use Rattle.view_punch.specs.Joining.{IsTooLong}
use Rattle.view_punch.specs.Making.{HasRows, IsUnmade}
use Rattle.view_punch.specs.declared.punching.Galleys.{Galleys}
use Rattle.view_punch.specs.declared.punching.Stop.{Stop}

-- ---- what a ribbon is made of

-- the names of the feeds, in their order
abbrev pub feeds_of : Galleys → List (Bor (List ℕ))
feeds_of from = from.first ∷ from.others.now

-- one of them, with the case and the wedge
abbrev pub source_of : Galleys → Bor (List ℕ) → Sources
source_of from feed = record { version = record { feed = feed; until = None }; case = from.case; wedge = from.wedge }

-- the two files give this case and this wedge
abbrev pub GiveMetal : Galleys → Shelf → CaseValues → WedgeValues → Type 0
GiveMetal from shelf case wedge = BothGive from.case.now from.wedge.now shelf (Ok (case, wedge)) shelf

-- ---- rows

-- the name stands for a feed whose copy is let through, and whose job has these rows
abbrev pub IsGalleyOf : Bool → CaseValues → WedgeValues → Shelf → List ℕ → List RibbonRow → Type 0
IsGalleyOf faulty case wedge shelf feed rows =
    (set : OpSet) × IsSetOf feed shelf set × HasRows faulty set case wedge rows

-- so do these names, and the rows of each come after those of the one before
abbrev pub AreGalleysOf : Bool → CaseValues → WedgeValues → Shelf → List (Bor (List ℕ)) → List RibbonRow → Type 0
AreGalleysOf faulty case wedge shelf [] rows = rows ≡ []
AreGalleysOf faulty case wedge shelf (feed ∷ feeds) rows =
    (head rest : List RibbonRow) × IsGalleyOf faulty case wedge shelf feed.now head
    × AreGalleysOf faulty case wedge shelf feeds rest × (rows ≡ head ++ rest)

-- ---- lines

-- the cast lines are those of the copy of a set, by its settings
abbrev pub AreLinesOf : OpSet → CaseValues → WedgeValues → List Line → Type 0
AreLinesOf set case wedge got =
    (values : Values) × (values_of (setting_of set) ≡ Ok values)
    × AreLines (terms_of case wedge values) (lines (terms_of case wedge values) (copy_of set)) got

-- they are those of the copies of these feeds, in their order
abbrev pub AreLinesOfAll : CaseValues → WedgeValues → Shelf → List (Bor (List ℕ)) → List Line → Type 0
AreLinesOfAll case wedge shelf [] got = got ≡ []
AreLinesOfAll case wedge shelf (feed ∷ feeds) got =
    (set : OpSet) × IsSetOf feed.now shelf set × (head rest : List Line) × AreLinesOf set case wedge head
    × AreLinesOfAll case wedge shelf feeds rest × (got ≡ head ++ rest)

-- bytes are a ribbon, and its rows cast the lines of these feeds, in their order
abbrev pub CastsAll : CaseValues → WedgeValues → Shelf → List (Bor (List ℕ)) → List ℕ → Type 0
CastsAll case wedge shelf feeds bytes =
    (rows : List RibbonRow) × IsRibbon bytes rows × (got : List Line) × (cast case wedge rows ≡ Ok got)
    × AreLinesOfAll case wedge shelf feeds got

-- ---- the ribbon of all

-- the case and the wedge are given, each feed has a job with rows, and the bytes are the ribbon of all of them, which
-- is not too long, and which casts the lines of each feed
abbrev pub AreMade : Galleys → Bool → Shelf → List ℕ → Type 0
AreMade from faulty shelf bytes =
    (case : CaseValues) × (wedge : WedgeValues) × GiveMetal from shelf case wedge
    × (rows : List RibbonRow) × AreGalleysOf faulty case wedge shelf (feeds_of from) rows × (bytes ≡ ribbon rows)
    × (length bytes ≤ max_file) × CastsAll case wedge shelf (feeds_of from) bytes

-- they are, and the target, where nothing stood but a ribbon, or which is forced, stands for that ribbon
abbrev pub IsPunched : Galleys → Destination → Bool → Shelf → Shelf → Type 0
IsPunched from to faulty before after =
    (bytes : List ℕ) × AreMade from faulty before bytes × GivesWay to kinds.Ribbon before.kept
    × IsReplaced to.name bytes before.kept after.kept

-- ---- why there is none

-- the first feeds have these rows, so many of them, and this is the next
abbrev pub IsNext : Galleys → Bool → CaseValues → WedgeValues → Shelf → ℕ → Bor (List ℕ) → List RibbonRow → Type 0
IsNext from faulty case wedge shelf at feed rows =
    (prefix tail : List (Bor (List ℕ))) × (feeds_of from ≡ prefix ++ feed ∷ tail) × (length prefix ≡ at)
    × AreGalleysOf faulty case wedge shelf prefix rows

-- The rows of a feed were not added to these: the feed is not opened; or its copy is barred, or its job has faults, or
-- memory ran out; or the ribbon of all would be too long. Then nothing was written, but where there are faults.
abbrev pub IsUnadded : Bool → CaseValues → WedgeValues → List ℕ → List RibbonRow → (first last : Shelf)
    → (before after : Option (List ℕ)) → PreviewFault → Type 0
IsUnadded faulty case wedge feed rows first last before after fault =
    ((after ≡ before) × (why : FeedTrouble) × (fault ≡ faults.Feed why) × IsClosedBy feed first last why)
    ⊎ ((last ≡ first) × (set : OpSet) × IsSetOf feed first set
    × IsUnmade faulty set case wedge before after fault)
    ⊎ ((last ≡ first) × (after ≡ before) × (more : List RibbonRow) × IsGalleyOf faulty case wedge first feed more
    × IsTooLong (length (ribbon (rows ++ more))) fault)

-- the first feed is not opened, or it is, and the case or the wedge is not given
abbrev pub IsUnbegun : Galleys → (first last : Shelf) → (before after : Option (List ℕ)) → PreviewFault → Type 0
IsUnbegun from first last before after fault =
    (after ≡ before) × (why : SourcesFault) × (fault ≡ of_sources why)
    × AreRefused (source_of from from.first) first last why

-- the case and the wedge are given, and the feed of this place did not add its rows to those of the feeds before it
abbrev pub StopsAt : Galleys → Bool → (first last : Shelf) → (before after : Option (List ℕ)) → ℕ → PreviewFault
    → Type 0
StopsAt from faulty first last before after at fault =
    (case : CaseValues) × (wedge : WedgeValues) × GiveMetal from first case wedge
    × (feed : Bor (List ℕ)) × (rows : List RibbonRow) × IsNext from faulty case wedge first at feed rows
    × IsUnadded faulty case wedge feed.now rows first last before after fault

-- the ribbon of all was not made, by the feed of this place
abbrev pub AreUnmade : Galleys → Bool → (first last : Shelf) → (before after : Option (List ℕ)) → Stop → Type 0
AreUnmade from faulty first last before after stop =
    ((stop.feed ≡ 0) × IsUnbegun from first last before after stop.why)
    ⊎ StopsAt from faulty first last before after stop.feed stop.why

-- it was made, and not stored: the place is that of the last feed
abbrev pub AreMadeOnly : Galleys → Destination → Bool → (first last : Shelf) → (before after : Option (List ℕ)) → Stop
    → Type 0
AreMadeOnly from to faulty first last before after stop =
    (suc stop.feed ≡ length (feeds_of from)) × (after ≡ before) × (bytes : List ℕ) × AreMade from faulty first bytes
    × (why : OutputFault) × (stop.why ≡ of_output why) × IsNotPut to kinds.Ribbon first last why

-- Why no ribbon was stored, and what was written. No file has changed but, where the ribbon was not stored, that of the
-- writing.
abbrev pub IsUnpunched : Galleys → Destination → Bool → (first last : Shelf) → (before after : Option (List ℕ)) → Stop
    → Type 0
IsUnpunched from to faulty first last before after stop =
    (Stays first last × AreUnmade from faulty first last before after stop)
    ⊎ AreMadeOnly from to faulty first last before after stop
