-- The ribbon of the copy of a stored feed by a case and a wedge, or the line of its faults.
use Rattle.std.specs.Prelude.{◌≡◌, ◌≢◌, ◌⊎◌, ℕ, Bool, false, List, [], Option, Ok, Err}
use Rattle.std.specs.Io.KnownBytes.{Appends}
use Rattle.desk_ops.specs.OpSet.{OpSet}
use Rattle.desk_ops.specs.Faults.{faults_of}
use Rattle.desk_ops.specs.declared.op.Key.{Key}
use Rattle.desk_signals.specs.declared.RibbonRow.{RibbonRow}
use Rattle.desk_case.specs.Case.{CaseValues}
use Rattle.desk_wedge.specs.Wedge.{WedgeValues}
use Rattle.desk_ribbon.specs.Ribbon.{ribbon}
use Rattle.desk_job.specs.declared.JobFault.{JobFault}
use Rattle.desk_job.specs.Answer.{by_key}
use Rattle.desk_replica.specs.JobSettings.{settings_of}
use Rattle.view_proof.specs.Reasons.{missing, other_number}
use Rattle.view_proof.specs.declared.reasons.OtherNumber.{OtherNumber}
use Rattle.feed_stored.specs.Sending.{WritesPrefix}
use Rattle.feed_edit.specs.Merging.{faults_line}
use Rattle.script_answers.specs.Job.{job_of}
use Rattle.view_preview.specs.declared.fault.PreviewFault.{PreviewFault}
use Rattle.view_preview.specs.declared.fault.PreviewFault.TheVariants as faults
use Rattle.view_punch.specs.Lines.{IsUnreported, job_line}
use Rattle.view_punch.specs.declared.fault.LineFault.{LineFault}
use Rattle.view_punch.specs.declared.fault.LineFault.TheVariants as lines

-- what a line that is not written is for a preview
abbrev pub of_line : LineFault → PreviewFault
of_line lines.NoMemory = faults.NoMemory
of_line lines.Write = faults.Write

-- ---- the faults of a copy

-- a copy is let through: it has no fault, or faults are let through
abbrev pub IsLetThrough : Bool → OpSet → Type 0
IsLetThrough faulty set = faulty ≡ false → faults_of set ≡ []

-- it has faults, and these are not let through
abbrev pub IsBarred : Bool → OpSet → Type 0
IsBarred faulty set = (faulty ≡ false) × (faults_of set ≢ [])

-- why a copy was not let through: it has faults, and their line was written, or a prefix of it; or memory ran out
-- before that
abbrev pub IsStopped : Bool → OpSet → Option (List ℕ) → Option (List ℕ) → PreviewFault → Type 0
IsStopped faulty set before after fault =
    ((fault ≡ faults.CopyFaults) × IsBarred faulty set × Appends before after (faults_line set))
    ⊎ ((fault ≡ faults.Write) × IsBarred faulty set × WritesPrefix before after (faults_line set))
    ⊎ ((fault ≡ faults.NoMemory) × (after ≡ before))

-- ---- the job

-- the copy of a set is let through, and its job has these rows
abbrev pub HasRows : Bool → OpSet → CaseValues → WedgeValues → List RibbonRow → Type 0
HasRows faulty set case wedge rows = IsLetThrough faulty set × (job_of set case wedge ≡ Ok rows)

-- the bytes are the ribbon of such rows
abbrev pub IsMadeOf : Bool → OpSet → CaseValues → WedgeValues → List ℕ → Type 0
IsMadeOf faulty set case wedge bytes =
    (rows : List RibbonRow) × HasRows faulty set case wedge rows × (bytes ≡ ribbon rows)

-- the settings of a set that are missing, and the number that is another
abbrev pub missing_of : OpSet → List Key
missing_of set = missing (by_key (settings_of set))

abbrev pub other_of : OpSet → CaseValues → WedgeValues → Option OtherNumber
other_of set case wedge = other_number (by_key (settings_of set)) case wedge

-- The copy is let through, and the job has faults. Their line was written, with all the settings that are missing, and
-- the number that is another, if one is, is known; or the line was not written.
abbrev pub HasFaults : Bool → OpSet → CaseValues → WedgeValues → (before after : Option (List ℕ)) → PreviewFault
    → Type 0
HasFaults faulty set case wedge before after fault =
    IsLetThrough faulty set × (found : List JobFault) × (job_of set case wedge ≡ Err found)
    × (((fault ≡ faults.Faulty (other_of set case wedge)) × Appends before after (job_line (missing_of set) found))
    ⊎ ((why : LineFault) × (fault ≡ of_line why) × IsUnreported (job_line (missing_of set) found) before after why))

-- why there is no ribbon of a copy: it is not let through; or its job has faults; or memory ran out, and nothing was
-- written
abbrev pub IsUnmade : Bool → OpSet → CaseValues → WedgeValues → (before after : Option (List ℕ)) → PreviewFault → Type 0
IsUnmade faulty set case wedge before after fault =
    IsStopped faulty set before after fault
    ⊎ HasFaults faulty set case wedge before after fault
    ⊎ ((fault ≡ faults.NoMemory) × (after ≡ before))
