-- The proof of a stored feed or of a text, written as text.
use Rattle.std.specs.Prelude.{◌≡◌, ◌⊎◌, ◌&&◌, ◌==◌, ℕ, Bool, true, false, not, List, [], ◌∷◌, Option, length}
use Rattle.std.specs.Io.KnownBytes.{Appends}
use Rattle.desk_ops.specs.declared.fault.CopyFault.{CopyFault}
use Rattle.view_galley.specs.Values.{GalleyValues, LineValues}
use Rattle.view_galley.specs.Galley.{is_faulty}
use Rattle.view_proof.specs.declared.reasons.NoGalley.{NoGalley}
use Rattle.feed_files.specs.Files.{Shelf}
use Rattle.feed_stored.specs.Sending.{WritesPrefix}
use Rattle.desk_replica.specs.declared.settings.Settings.{Settings}
use Rattle.view_preview.specs.Matter.{HasGalley, HasNone, MatterValues}
use Rattle.view_preview.specs.Sources.{of_sources}
use Rattle.view_preview.specs.Taking.{Gives, GivesAll, GivesNone}
use Rattle.view_preview.specs.Written.{IsWritten, none_text}
use Rattle.view_preview.specs.declared.fault.PreviewFault.{PreviewFault}
use Rattle.view_preview.specs.declared.fault.PreviewFault.TheVariants as faults
use Rattle.view_preview.specs.declared.fault.SourcesFault.{SourcesFault}
use Rattle.view_preview.specs.declared.job.Job.{Job}
use Rattle.view_preview.specs.declared.job.Source.{Source}
use Rattle.view_preview.specs.declared.job.Source.TheVariants as sources
use Rattle.view_preview.specs.declared.manner.Form.{Form}
use Rattle.view_preview.specs.declared.manner.Manner.{Manner}

-- none of the lines has a fault
abbrev pub are_set : List LineValues → Bool
are_set [] = true
are_set (line ∷ lines) = not (is_faulty line) && are_set lines

-- no fault stands at all: every correction is shown, the case lacks no symbol, and each line is set
abbrev pub is_clean : List CopyFault → GalleyValues → Bool
is_clean faults galley = (length faults == 0) && ((length galley.lacking == 0) && are_set galley.lines)

-- its galley by its settings and those that are tried is written, and whether it is clean
abbrev pub HasProof : List ℕ → MatterValues → Settings → Manner → List ℕ → Bool → Type 0
HasProof name matter trial manner reported clean =
    (galley : GalleyValues) × HasGalley matter trial galley
    × IsWritten name matter galley manner.form manner.looks reported × (clean ≡ is_clean matter.faults galley)

-- it says why there is none
abbrev pub HasNoGalley : List ℕ → MatterValues → Settings → Form → List ℕ → Bool → Type 0
HasNoGalley name matter trial form reported clean =
    (why : NoGalley) × HasNone matter trial why
    × (reported ≡ none_text name matter.faults why form) × (clean ≡ false)

-- what is said of a matter, whose text has this name
abbrev pub IsReported : List ℕ → MatterValues → Settings → Manner → List ℕ → Bool → Type 0
IsReported name matter trial manner reported clean = HasProof name matter trial manner reported clean
    ⊎ HasNoGalley name matter trial manner.form reported clean

-- the name of the feed, or of the file of the text
abbrev pub name_of : Source → List ℕ
name_of (sources.Feed version) = version.feed.now
name_of (sources.Text name plain) = name.now

-- what is said of what a job gives
abbrev pub IsProofOf : Job → Shelf → Settings → Manner → List ℕ → Bool → Type 0
IsProofOf job shelf trial manner reported clean = (matter : MatterValues) × Gives job shelf matter
    × IsReported (name_of job.source) matter trial manner reported clean

-- it was written
abbrev pub IsProofed : Job → Settings → Manner → Shelf → Option (List ℕ) → Option (List ℕ) → Bool → Type 0
IsProofed job trial manner shelf before after clean = (reported : List ℕ)
    × IsProofOf job shelf trial manner reported clean × Appends before after reported

-- Why not all of it was written, and what was: nothing, where the job gives nothing, or memory ran out once it had
-- given all; or a prefix, under Write.
abbrev pub IsUnproofed : Job → Settings → Manner → Shelf → Shelf → Option (List ℕ) → Option (List ℕ) → PreviewFault
    → Type 0
IsUnproofed job trial manner first last before after fault =
    ((after ≡ before) × (why : SourcesFault) × (fault ≡ of_sources why) × GivesNone job first last why)
    ⊎ ((after ≡ before) × (fault ≡ faults.NoMemory) × (last ≡ first) × GivesAll job first)
    ⊎ ((fault ≡ faults.Write) × (last ≡ first) × (reported : List ℕ) × (clean : Bool)
    × IsProofOf job first trial manner reported clean × WritesPrefix before after reported)
