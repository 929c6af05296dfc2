-- What a made ribbon casts.
use Rattle.std.proofs.Common.{◌≡◌, ℕ, List, sym, subst, ◌∙◌}
use Rattle.std.specs.Prelude.{◌≢◌, Option, Result, Ok, Err, IfOk}
use Rattle.desk_ops.specs.declared.op.Symbol.{Symbol}
use Rattle.desk_ops.specs.declared.op.Key.{Key}
use Rattle.desk_signals.specs.declared.RibbonRow.{RibbonRow}
use Rattle.desk_case.specs.Case.{CaseValues}
use Rattle.desk_wedge.specs.Wedge.{WedgeValues}
use Rattle.desk_job.specs.declared.JobFault.{JobFault}
use Rattle.desk_job.specs.Answer.{IsMade}
use Rattle.desk_job.specs.Reading.{CastsCopy}
use Rattle.desk_caster.specs.Caster.{Line, cast}
use Rattle.desk_caster.specs.Reading.{IsRibbon, Reports}
use Rattle.desk_caster.proofs.Ribbons.{ribbons_have_no_fault, ribbons_have_one_reading}
use Rattle.desk_caster.specs.declared.RibbonFault.{RibbonFault}
use Rattle.desk_caster.specs.declared.RibbonFault.TheVariants as ribbons
use Rattle.desk_caster.specs.declared.CastFault.{CastFault}
use Rattle.desk_caster.specs.declared.CastFault.TheVariants as casts
use Rattle.script_answers.specs.Reply.{ReplyValues}
use Rattle.script_answers.specs.Job.{ReportsCast, ReportsLines}

reports : (case : CaseValues) (wedge : WedgeValues) (bytes : List ℕ) (made : Result (List RibbonRow) (List JobFault)) (reply : ReplyValues) → IsMade bytes made → ReportsCast case wedge bytes reply → ReportsLines case wedge made reply
reports case wedge bytes (Ok rows) reply e h = subst (λ b. ReportsCast case wedge b reply) e h
reports case wedge bytes (Err faults) reply e h = absurd e

-- the answer of the bytes is that of the job
pub of_job : {X E : Type 0} (case : CaseValues) (wedge : WedgeValues) (bytes slice : List ℕ) (made : Result (List RibbonRow) (List JobFault)) (r : Result X E) (reported : X → ReplyValues)
    → slice ≡ bytes → IsMade bytes made → IfOk r (λ a. ReportsCast case wedge slice (reported a)) → IfOk r (λ a. ReportsLines case wedge made (reported a))
of_job case wedge bytes slice made (Ok a) reported e is h = reports case wedge bytes made (reported a) is (subst (λ b. ReportsCast case wedge b (reported a)) e h)
of_job case wedge bytes slice made (Err x) reported e is h = tt

-- the bytes of a made ribbon are read, and its rows are cast
pub castable : (copy : List Symbol) (settings : Key → Option ℕ) (case : CaseValues) (wedge : WedgeValues) (bytes slice : List ℕ) → slice ≡ bytes → CastsCopy copy settings case wedge bytes
    → (rows : List RibbonRow) × IsRibbon slice rows × ((lines : List Line) × (cast case wedge rows ≡ Ok lines))
castable copy settings case wedge bytes slice e h = (h.rows, subst (λ b. IsRibbon b h.rows) (sym e) h.is, (h.got, h.casts))

-- a ribbon has no fault
pub no_fault : (bytes : List ℕ) (why : RibbonFault) → why ≢ ribbons.NoMemory → (rows : List RibbonRow) × IsRibbon bytes rows → Reports bytes why → ⊥
no_fault bytes why other h reported = ribbons_have_no_fault bytes h.0 why other h.1 reported

-- the rows that were read are cast as those that the bytes are the ribbon of
pub one_reading : (case : CaseValues) (wedge : WedgeValues) (bytes : List ℕ) (rows : List RibbonRow) → ((rows : List RibbonRow) × IsRibbon bytes rows × ((lines : List Line) × (cast case wedge rows ≡ Ok lines))) → IsRibbon bytes rows → (lines : List Line) × (cast case wedge rows ≡ Ok lines)
one_reading case wedge bytes rows h is = subst (λ (r : List RibbonRow). (lines : List Line) × (cast case wedge r ≡ Ok lines)) (ribbons_have_one_reading bytes h.0 rows h.1 is) h.2
