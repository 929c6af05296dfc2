-- The document of the galley of a stored feed or of a text, stored under a name.
use Rattle.std.specs.Prelude.{◌≡◌, ◌⊎◌, ℕ, List}
use Rattle.desk_replica.specs.declared.settings.Settings.{Settings}
use Rattle.view_galley.specs.Values.{GalleyValues}
use Rattle.view_proof.specs.declared.reasons.NoGalley.{NoGalley}
use Rattle.feed_files.specs.Files.{IsReplaced, Shelf, Stays}
use Rattle.feed_files.specs.Outputs.{Destination, GivesWay, IsNotPut}
use Rattle.feed_files.specs.declared.output_fault.OutputFault.{OutputFault}
use Rattle.feed_files.specs.declared.kinds.Kind.TheVariants as kinds
use Rattle.view_preview.specs.Faults.{of_output}
use Rattle.view_preview.specs.Matter.{HasGalley, HasNone, MatterValues}
use Rattle.view_preview.specs.Sources.{of_sources}
use Rattle.view_preview.specs.Taking.{Gives, GivesAll, GivesNone}
use Rattle.view_preview.specs.declared.job.Job.{Job}
use Rattle.view_preview.specs.declared.fault.PreviewFault.{PreviewFault}
use Rattle.view_preview.specs.declared.fault.PreviewFault.TheVariants as faults
use Rattle.view_preview.specs.declared.fault.SourcesFault.{SourcesFault}
use Rattle.view_pages.specs.Document.{document_text, no_galley_document}

-- the document of its galley on pages of so many points, by its settings and those that are tried
abbrev pub ShowsGalley : Job → MatterValues → Settings → (height : ℕ) → List ℕ → Type 0
ShowsGalley job matter trial height drawn = (galley : GalleyValues) × HasGalley matter trial galley
    × (drawn ≡ document_text job height matter.copy matter.faults galley)

-- there is no galley, and the document says why
abbrev pub ShowsNone : Job → MatterValues → Settings → (height : ℕ) → List ℕ → Type 0
ShowsNone job matter trial height drawn = (why : NoGalley) × HasNone matter trial why
    × (drawn ≡ no_galley_document job height matter.faults why)

-- what is drawn of a matter
abbrev pub IsDrawn : Job → MatterValues → Settings → (height : ℕ) → List ℕ → Type 0
IsDrawn job matter trial height drawn = ShowsGalley job matter trial height drawn
    ⊎ ShowsNone job matter trial height drawn

-- what is drawn of what a job gives
abbrev pub IsDocumentOf : Job → Shelf → Settings → (height : ℕ) → List ℕ → Type 0
IsDocumentOf job shelf trial height drawn = (matter : MatterValues) × Gives job shelf matter
    × IsDrawn job matter trial height drawn

-- the target, where nothing stood but a document, or which is forced, stands for that, and no other file has changed
abbrev pub IsDocumented : Job → Settings → (height : ℕ) → Destination → Shelf → Shelf → Type 0
IsDocumented job trial height to before after =
    (drawn : List ℕ) × IsDocumentOf job before trial height drawn × GivesWay to kinds.Document before.kept
    × IsReplaced to.name drawn before.kept after.kept

-- Why no document was stored: the job gives nothing; or memory ran out once it had given all; or it was made, and
-- not stored. No file has changed but, in that last case, that of the writing.
abbrev pub IsUndocumented : Job → Settings → (height : ℕ) → Destination → Shelf → Shelf → PreviewFault → Type 0
IsUndocumented job trial height to first last fault =
    (Stays first last × (why : SourcesFault) × (fault ≡ of_sources why) × GivesNone job first last why)
    ⊎ ((fault ≡ faults.NoMemory) × (last ≡ first) × GivesAll job first)
    ⊎ ((why : OutputFault) × (fault ≡ of_output why) × (drawn : List ℕ) × IsDocumentOf job first trial height drawn
    × IsNotPut to kinds.Document first last why)
