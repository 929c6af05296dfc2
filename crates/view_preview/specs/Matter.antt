-- What is set for a proof or a picture, and its galley.
use Rattle.std.specs.Prelude.{◌≡◌, ℕ, Bool, false, List, [], ◌∷◌, None, Some, Err}
use Rattle.desk_ops.specs.OpSet.{OpSet}
use Rattle.desk_ops.specs.Shown.{copy_of}
use Rattle.desk_ops.specs.Faults.{faults_of}
use Rattle.desk_ops.specs.declared.fault.CopyFault.{CopyFault}
use Rattle.desk_ops.specs.declared.op.Symbol.{Symbol}
use Rattle.desk_case.specs.Case.{CaseValues}
use Rattle.desk_wedge.specs.Wedge.{WedgeValues}
use Rattle.desk_replica.specs.JobSettings.{settings_of}
use Rattle.desk_replica.specs.declared.settings.Settings.{Settings}
use Rattle.desk_job.specs.Answer.{by_key}
use Rattle.desk_job.specs.Job.{job, values_of}
use Rattle.desk_job.specs.declared.JobFault.{JobFault}
use Rattle.text_copy.specs.Writing.{text_bytes}
use Rattle.view_galley.specs.Answer.{no_terms}
use Rattle.view_galley.specs.Galley.{IsGalley}
use Rattle.view_galley.specs.Values.{GalleyValues}
use Rattle.view_proof.specs.Reasons.{why_none}
use Rattle.view_proof.specs.declared.reasons.NoGalley.{NoGalley}
use Rattle.view_preview.specs.Trial.{tried_with}
use Rattle.view_preview.specs.declared.matter.Unset.{Unset}
use Rattle.view_preview.specs.declared.matter.Unset.TheVariants as unsets

-- A copy, why corrections are missing in it, its settings, and what it is set by. The text is the one that it was read
-- from, or that is written of it; where that is plain no character of it is a mark.
pub record MatterValues : Type 0 where
  pub copy : List Symbol
  pub faults : List CopyFault
  pub settings : Settings
  pub text : List ℕ
  pub plain : Bool
  pub case : CaseValues
  pub wedge : WedgeValues

-- what a set shows
abbrev pub matter_of : OpSet → CaseValues → WedgeValues → MatterValues
matter_of set case wedge = record {
  copy = copy_of set;
  faults = faults_of set;
  settings = settings_of set;
  text = text_bytes (copy_of set);
  plain = false;
  case = case;
  wedge = wedge;
}

-- the settings of a text: the numbers of the case and the wedge, and no others
abbrev pub numbers_of : CaseValues → WedgeValues → Settings
numbers_of case wedge =
    record { measure = None; tight = None; loose = None; case = Some case.number; wedge = Some wedge.number }

-- a text that is this copy, in which no correction is missing
abbrev pub matter_of_text : Bool → List ℕ → List Symbol → CaseValues → WedgeValues → MatterValues
matter_of_text plain text copy case wedge = record {
  copy = copy;
  faults = [];
  settings = numbers_of case wedge;
  text = text;
  plain = plain;
  case = case;
  wedge = wedge;
}

-- its settings, with those that are tried in their place
abbrev pub tried_of : Settings → MatterValues → Settings
tried_of trial matter = tried_with trial matter.settings

-- its galley by these
abbrev pub HasGalley : MatterValues → Settings → GalleyValues → Type 0
HasGalley matter trial galley = IsGalley matter.copy (by_key (tried_of trial matter)) matter.case matter.wedge galley

-- There is no galley, for this fault of the settings, those that are tried among them, the case and the wedge. The job
-- by these settings has it alone.
abbrev pub LacksGalley : MatterValues → Settings → JobFault → Type 0
LacksGalley matter trial why =
    (no_terms matter.case matter.wedge (values_of (by_key (tried_of trial matter))) ≡ why ∷ [])
    × (job matter.copy (by_key (tried_of trial matter)) matter.case matter.wedge ≡ Err (why ∷ []))

-- why there is none, as it is written: all the settings that are missing, or both numbers where one is another
abbrev pub reason_of : MatterValues → Settings → JobFault → NoGalley
reason_of matter trial why = why_none (tried_of trial matter) matter.case matter.wedge why

-- there is none, for this reason
abbrev pub HasNone : MatterValues → Settings → NoGalley → Type 0
HasNone matter trial reason = (why : JobFault) × LacksGalley matter trial why × (reason ≡ reason_of matter trial why)

-- so it is reported; out of memory may come in place of any
abbrev pub IsUnset : MatterValues → Settings → Unset → Type 0
IsUnset matter trial (unsets.Reason reason) = HasNone matter trial reason
IsUnset matter trial unsets.NoMemory = Unit {0}
