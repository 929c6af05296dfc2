-- What the files of a proof or a picture give.
use Rattle.std.specs.Prelude.{◌≡◌, ◌⊎◌, ℕ, Bool, List, Ok, Err}
use Rattle.std.specs.Borrow.{Bor}
use Rattle.desk_ops.specs.OpSet.{OpSet}
use Rattle.desk_ops.specs.declared.op.Symbol.{Symbol}
use Rattle.feed_edit.specs.declared.exporting.Version.{Version}
use Rattle.feed_files.specs.Files.{Shelf}
use Rattle.script_answers.specs.Inputs.{BothGive, BothLackMemory}
use Rattle.view_preview.specs.Matter.{MatterValues, matter_of, matter_of_text}
use Rattle.view_preview.specs.Sources.{AreRefused, Give, GiveAll}
use Rattle.view_preview.specs.Texts.{IsNoText, IsTextOf}
use Rattle.view_preview.specs.declared.fault.SourcesFault.{SourcesFault}
use Rattle.view_preview.specs.declared.fault.SourcesFault.TheVariants as refusals
use Rattle.view_preview.specs.declared.job.Job.{Job}
use Rattle.view_preview.specs.declared.job.Source.{Source}
use Rattle.view_preview.specs.declared.job.Source.TheVariants as sources
use Rattle.view_preview.specs.declared.sources.Sources.{Sources}

-- ---- a feed

abbrev pub feed_sources : Version → (case wedge : Bor (List ℕ)) → Sources
feed_sources version case wedge = record { version = version; case = case; wedge = wedge }

-- what the set of the version shows, by the case and the wedge of the two files
abbrev pub GivesFeed : Sources → Shelf → MatterValues → Type 0
GivesFeed from shelf matter = (set : OpSet) × Give from shelf set matter.case matter.wedge
    × (matter ≡ matter_of set matter.case matter.wedge)

-- why they give nothing; memory may also run out once they gave all, and then no file has changed
abbrev pub NoFeed : Sources → Shelf → Shelf → SourcesFault → Type 0
NoFeed from before after why = AreRefused from before after why
    ⊎ ((why ≡ refusals.NoMemory) × (after ≡ before) × GiveAll from before)

-- ---- a text

-- the copy of the text, by the case and the wedge of the two files
abbrev pub GivesText : Bool → (name case wedge : List ℕ) → Shelf → MatterValues → Type 0
GivesText plain name case wedge shelf matter = (text : List ℕ) × (copy : List Symbol)
    × IsTextOf plain name shelf text copy × BothGive case wedge shelf (Ok (matter.case, matter.wedge)) shelf
    × (matter ≡ matter_of_text plain text copy matter.case matter.wedge)

-- the case or the wedge is refused, or memory runs out by one of them
abbrev pub AreNoInputs : (case wedge : List ℕ) → Shelf → Shelf → SourcesFault → Type 0
AreNoInputs case wedge before after (refusals.Feed why) = ⊥
AreNoInputs case wedge before after refusals.TooLong = ⊥
AreNoInputs case wedge before after (refusals.Text why) = ⊥
AreNoInputs case wedge before after (refusals.Input why) = BothGive case wedge before (Err why) after
AreNoInputs case wedge before after refusals.NoMemory = BothLackMemory case wedge before after

-- why they give nothing: there is no text; or there is, and then the case or the wedge is not given
abbrev pub NoText : Bool → (name case wedge : List ℕ) → Shelf → Shelf → SourcesFault → Type 0
NoText plain name case wedge before after why = IsNoText plain name before after why
    ⊎ ((text : List ℕ) × (copy : List Symbol) × IsTextOf plain name before text copy
    × AreNoInputs case wedge before after why)

-- ---- either

abbrev pub GivesBy : Source → (case wedge : Bor (List ℕ)) → Shelf → MatterValues → Type 0
GivesBy (sources.Feed version) case wedge = GivesFeed (feed_sources version case wedge)
GivesBy (sources.Text name plain) case wedge = GivesText plain name.now case.now wedge.now

abbrev pub NoneBy : Source → (case wedge : Bor (List ℕ)) → Shelf → Shelf → SourcesFault → Type 0
NoneBy (sources.Feed version) case wedge = NoFeed (feed_sources version case wedge)
NoneBy (sources.Text name plain) case wedge = NoText plain name.now case.now wedge.now

-- what a job gives, and why it gives nothing
abbrev pub Gives : Job → Shelf → MatterValues → Type 0
Gives job = GivesBy job.source job.case job.wedge

abbrev pub GivesNone : Job → Shelf → Shelf → SourcesFault → Type 0
GivesNone job = NoneBy job.source job.case job.wedge

-- it gives something
abbrev pub GivesAll : Job → Shelf → Type 0
GivesAll job shelf = (matter : MatterValues) × Gives job shelf matter
