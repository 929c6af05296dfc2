-- The picture of the galley of a stored feed or of a text, stored under a name.
use Rattle.std.specs.Prelude.{◌≡◌, ◌⊎◌, ℕ, List}
use Rattle.desk_replica.specs.declared.settings.Settings.{Settings}
use Rattle.view_galley.specs.Values.{GalleyValues}
use Rattle.view_proof.specs.declared.reasons.NoGalley.{NoGalley}
use Rattle.feed_files.specs.Files.{IsReplaced, Shelf, Stays}
use Rattle.feed_files.specs.Outputs.{Destination, GivesWay, IsNotPut}
use Rattle.feed_files.specs.declared.output_fault.OutputFault.{OutputFault}
use Rattle.feed_files.specs.declared.kinds.Kind.TheVariants as kinds
use Rattle.view_preview.specs.Faults.{of_output}
use Rattle.view_preview.specs.Matter.{HasGalley, HasNone, MatterValues}
use Rattle.view_preview.specs.Sources.{of_sources}
use Rattle.view_preview.specs.Taking.{Gives, GivesAll, GivesNone}
use Rattle.view_preview.specs.declared.job.Job.{Job}
use Rattle.view_preview.specs.declared.fault.PreviewFault.{PreviewFault}
use Rattle.view_preview.specs.declared.fault.PreviewFault.TheVariants as faults
use Rattle.view_preview.specs.declared.fault.SourcesFault.{SourcesFault}
use Rattle.view_picture.specs.Picture.{no_galley_picture, picture_text}

-- the picture of its galley, by its settings and those that are tried
abbrev pub ShowsGalley : MatterValues → Settings → List ℕ → Type 0
ShowsGalley matter trial drawn = (galley : GalleyValues) × HasGalley matter trial galley
    × (drawn ≡ picture_text matter.copy matter.faults galley)

-- there is no galley, and the picture says why
abbrev pub ShowsNone : MatterValues → Settings → List ℕ → Type 0
ShowsNone matter trial drawn = (why : NoGalley) × HasNone matter trial why
    × (drawn ≡ no_galley_picture matter.faults why)

-- what is drawn of a matter
abbrev pub IsDrawn : MatterValues → Settings → List ℕ → Type 0
IsDrawn matter trial drawn = ShowsGalley matter trial drawn ⊎ ShowsNone matter trial drawn

-- what is drawn of what a job gives
abbrev pub IsPictureOf : Job → Shelf → Settings → List ℕ → Type 0
IsPictureOf job shelf trial drawn = (matter : MatterValues) × Gives job shelf matter × IsDrawn matter trial drawn

-- the target, where nothing stood but a picture, or which is forced, stands for that, and no other file has changed
abbrev pub IsPictured : Job → Settings → Destination → Shelf → Shelf → Type 0
IsPictured job trial to before after =
    (drawn : List ℕ) × IsPictureOf job before trial drawn × GivesWay to kinds.Picture before.kept
    × IsReplaced to.name drawn before.kept after.kept

-- Why no picture was stored: the job gives nothing; or memory ran out once it had given all; or it was made, and
-- not stored. No file has changed but, in that last case, that of the writing.
abbrev pub IsUnpictured : Job → Settings → Destination → Shelf → Shelf → PreviewFault → Type 0
IsUnpictured job trial to first last fault =
    (Stays first last × (why : SourcesFault) × (fault ≡ of_sources why) × GivesNone job first last why)
    ⊎ ((fault ≡ faults.NoMemory) × (last ≡ first) × GivesAll job first)
    ⊎ ((why : OutputFault) × (fault ≡ of_output why) × (drawn : List ℕ) × IsPictureOf job first trial drawn
    × IsNotPut to kinds.Picture first last why)
