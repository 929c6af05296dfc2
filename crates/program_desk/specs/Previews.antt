-- What a proof and a punch have done, what they left, and what standard error has.
use Rattle.std.specs.Prelude.{◌≡◌, ◌≢◌, ◌⊎◌, ℕ, Bool, true, false, List, [], ◌∷◌, Option, Some, None, if◌then◌else◌}
use Rattle.std.specs.Borrow.{Bor}
use Rattle.std.specs.Str.{bytes_eq}
use Rattle.feed_files.specs.Files.{Shelf, Stays}
use Rattle.feed_files.specs.Outputs.{destination}
use Rattle.view_preview.specs.Proofing.{IsProofed, IsUnproofed}
use Rattle.view_punch.specs.Punching.{IsPunched, IsUnpunched}
use Rattle.view_preview.specs.declared.fault.PreviewFault.{PreviewFault}
use Rattle.view_preview.specs.declared.fault.PreviewFault.TheVariants as faults
use Rattle.view_punch.specs.declared.punching.Galleys.{Galleys}
use Rattle.view_punch.specs.declared.punching.Stop.{Stop}
use Rattle.desk_replica.specs.declared.settings.Settings.{Settings}
use Rattle.view_preview.specs.Trial.{HasLine, first_idle, trial_of}
use Rattle.view_preview.specs.declared.trial.TrialFault.{TrialFault}
use Rattle.view_preview.specs.declared.trial.TrialFault.TheVariants as trials
use Rattle.view_preview.specs.declared.job.Job.{Job}
use Rattle.program_desk.specs.Causes.{proof_cause, punch_cause, trial_cause}
use Rattle.program_desk.specs.Depicting.{AreAbsent, AreThere, IsMisplaced, IsSource}
use Rattle.program_desk.specs.Explained.{IsSilent, Reports, StaysSo, TellsOf}
use Rattle.program_desk.specs.declared.causes.Cause.{Cause}
use Rattle.program_desk.specs.declared.causes.Cause.TheVariants as causes
use Rattle.program_desk.specs.declared.causes.Output.TheVariants as outputs
use Rattle.program_desk.specs.declared.previews.Preview.{Preview}

-- the galley was written by the settings and those that are tried, and it is clean or not; no file has changed
abbrev pub IsShown : Preview → Settings → Shelf → Shelf → Option (List ℕ) → Option (List ℕ) → Bool → Type 0
IsShown asked trial first last before after clean =
    Stays first last × IsProofed asked.job trial asked.manner first before after clean

-- it was not written, for this fault
abbrev pub IsUnshown : Preview → Settings → Shelf → Shelf → Option (List ℕ) → Option (List ℕ) → PreviewFault → Type 0
IsUnshown asked trial first last before after fault =
    Stays first last × IsUnproofed asked.job trial asked.manner first last before after fault

-- the galley by these settings was written, it has no fault, and then what is asked for of picture and document was
-- stored
abbrev pub IsSeenBy : Preview → Settings → Shelf → Shelf → Option (List ℕ) → Option (List ℕ) → Type 0
IsSeenBy asked trial first last before after =
    (middle : Shelf) × IsShown asked trial first middle before after true × AreThere asked trial middle last

-- standard error has the lines on a fault of a galley, which has no target
abbrev pub ReportsProof : Job → PreviewFault → Bool → Option (List ℕ) → Option (List ℕ) → Type 0
ReportsProof from fault whole quiet said =
    (target : Bor (List ℕ)) × Reports (proof_cause from target fault) whole quiet said

-- Why the status is 1. The galley was not written, for another fault than that of the writer. Or the writer failed, and
-- picture and document were stored all the same, or not; or the galley was written, and one of them not stored; or all
-- was, and there is a fault, of which standard error has nothing.
abbrev pub IsUnseenBy : Preview → Settings → Shelf → Shelf → Option (List ℕ) → Option (List ℕ) → Bool
    → Option (List ℕ) → Option (List ℕ) → Type 0
IsUnseenBy asked trial first last before after whole quiet said =
    ((fault : PreviewFault) × (fault ≢ faults.Write) × IsUnshown asked trial first last before after fault
    × ReportsProof asked.job fault whole quiet said)
    ⊎ ((middle : Shelf) × (begun : Bool) × (between : Option (List ℕ))
    × IsUnshown asked trial first middle before after faults.Write
    × Reports causes.ReportOutput begun quiet between
    × ((AreThere asked trial middle last × StaysSo begun whole between said)
    ⊎ AreAbsent asked trial middle last begun whole between said))
    ⊎ ((middle : Shelf) × (clean : Bool) × IsShown asked trial first middle before after clean
    × AreAbsent asked trial middle last true whole quiet said)
    ⊎ ((middle : Shelf) × IsShown asked trial first middle before after false
    × AreThere asked trial middle last × IsSilent whole quiet said)

-- so by what the texts try; and no file that is read, or stored before, gave way to what was stored
abbrev pub IsSeen : Preview → List (Bor (List ℕ)) → Shelf → Shelf → Option (List ℕ) → Option (List ℕ) → Type 0
IsSeen asked sets first last before after =
    IsMisplaced asked None
    × (trial : Settings) × (trial_of sets ≡ Some trial) × IsSeenBy asked trial first last before after

-- of the texts the one at this place is the first that tries no setting; or memory ran out for them
abbrev pub IsUntried : TrialFault → List (Bor (List ℕ)) → Type 0
IsUntried (trials.NoSetting place) sets = first_idle 0 sets ≡ Some place
IsUntried trials.NoMemory sets = HasLine sets

-- Nothing was begun: the picture or the document would take the place of a file that is read, or one that of the other,
-- or the texts try no settings. Or the galley was begun.
abbrev pub IsUnseen : Preview → List (Bor (List ℕ)) → Shelf → Shelf → Option (List ℕ) → Option (List ℕ) → Bool
    → Option (List ℕ) → Option (List ℕ) → Type 0
IsUnseen asked sets first last before after whole quiet said =
    ((cause : Cause) × IsMisplaced asked (Some cause) × (last ≡ first) × (after ≡ before)
    × TellsOf true cause whole quiet said)
    ⊎ ((fault : TrialFault) × IsUntried fault sets × (last ≡ first) × (after ≡ before)
    × TellsOf true (trial_cause sets fault) whole quiet said)
    ⊎ ((trial : Settings) × (trial_of sets ≡ Some trial)
    × IsUnseenBy asked trial first last before after whole quiet said)

-- the name is one of these
abbrev pub is_one_of : List (Bor (List ℕ)) → List ℕ → Bool
is_one_of [] target = false
is_one_of (name ∷ names) target = if bytes_eq name.now target then true else is_one_of names target

-- the name is one of those of what a ribbon is made of
abbrev pub MakesRibbon : Galleys → List ℕ → Type 0
MakesRibbon from target =
    IsSource from.first.now from.case.now from.wedge.now target ⊎ (is_one_of from.others.now target ≡ true)

-- the ribbon is stored under the name, and nothing was written; it took the place of another file only by force, of
-- none that it is made of, and no copy has a fault, unless such a copy is asked for
abbrev pub IsInFile : Galleys → List ℕ → Bool → Bool → Shelf → Shelf → Option (List ℕ) → Option (List ℕ) → Type 0
IsInFile from target force faulty first last before after =
    (MakesRibbon from target → ⊥) × (after ≡ before)
    × IsPunched from (destination target force) faulty first last

-- why there is no ribbon, what was left, and what standard error has: it would take the place of what it is made of,
-- and nothing was begun; or it was not made, or not stored
abbrev pub IsInNoFile : Galleys → Bor (List ℕ) → Bool → Bool → Shelf → Shelf → Option (List ℕ) → Option (List ℕ)
    → Bool → Option (List ℕ) → Option (List ℕ) → Type 0
IsInNoFile from target force faulty first last before after whole quiet said =
    (MakesRibbon from target.now × (last ≡ first) × (after ≡ before)
    × TellsOf true (causes.Source target outputs.Ribbon) whole quiet said)
    ⊎ ((stop : Stop)
    × IsUnpunched from (destination target.now force) faulty first last before after stop
    × Reports (punch_cause from target stop) whole quiet said)
