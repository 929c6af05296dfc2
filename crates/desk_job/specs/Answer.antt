-- What the program answers for a job.
use Rattle.std.specs.Prelude.{◌≡◌, ℕ, List, [], Option, IfSome, Result, Ok, Err}
use Rattle.desk_ops.specs.declared.op.Symbol.{Symbol}
use Rattle.desk_ops.specs.declared.op.Key.{Key}
use Rattle.desk_ops.specs.declared.op.Key.TheVariants.{Measure, Tight, Loose, Case, Wedge}
use Rattle.desk_ops.specs.Op.{IsValue}
use Rattle.desk_replica.specs.declared.settings.Settings.{Settings}
use Rattle.desk_signals.specs.declared.RibbonRow.{RibbonRow}
use Rattle.desk_ribbon.specs.Ribbon.{ribbon}
use Rattle.desk_job.specs.Job.{Terms, lines, lacking, line_faults, or_faults, rows_of, rows_or}
use Rattle.desk_job.specs.declared.JobFault.{JobFault}
use Rattle.desk_job.specs.declared.JobRefusal.{JobRefusal}
use Rattle.desk_job.specs.declared.JobRefusal.TheVariants as refusal

-- the rows of a copy whose settings, case and wedge go together, or its faults
abbrev pub set_copy : Terms → List Symbol → Result (List RibbonRow) (List JobFault)
set_copy terms copy =
    rows_or (rows_of terms (lines terms copy))
    (or_faults (lacking terms.case 0 copy) (line_faults terms 1 (lines terms copy)))

-- The refusal has these faults, which are some; out of memory may come in place of any.
abbrev pub HasFaults : {A : Type 0} → JobRefusal A → List JobFault → Type 0
HasFaults (refusal.Faults found) faults = (found ≡ faults) × ((faults ≡ []) → ⊥)
HasFaults refusal.NoMemory faults = Unit {0}

-- The bytes are the ribbon of the rows of the job.
abbrev pub IsMade : List ℕ → Result (List RibbonRow) (List JobFault) → Type 0
IsMade bytes (Ok rows) = bytes ≡ ribbon rows
IsMade bytes (Err faults) = ⊥

-- The refusal's faults are those of the job; out of memory may come in place of any.
abbrev pub IsRefused : {A : Type 0} → JobRefusal A → Result (List RibbonRow) (List JobFault) → Type 0
IsRefused (refusal.Faults faults) made = made ≡ Err faults
IsRefused refusal.NoMemory made = Unit {0}

-- the settings by their keys
abbrev pub by_key : Settings → Key → Option ℕ
by_key settings Measure = settings.measure
by_key settings Tight = settings.tight
by_key settings Loose = settings.loose
by_key settings Case = settings.case
by_key settings Wedge = settings.wedge

-- The settings that have values are in their ranges.
pub record AreValues (settings : Settings) : Type 0 where
  pub measure : IfSome settings.measure (IsValue Measure)
  pub tight : IfSome settings.tight (IsValue Tight)
  pub loose : IfSome settings.loose (IsValue Loose)
