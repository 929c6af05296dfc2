-- The job of a site's copy by two files.
use Rattle.std.specs.Prelude.{◌≡◌, ◌⊎◌, ℕ, List, Result, Ok, Err, MatchResult}
use Rattle.desk_ops.specs.OpSet.{OpSet}
use Rattle.desk_ops.specs.Shown.{copy_of}
use Rattle.desk_ops.specs.Settings.{setting_of}
use Rattle.desk_signals.specs.declared.RibbonRow.{RibbonRow}
use Rattle.desk_case.specs.Case.{CaseValues}
use Rattle.desk_wedge.specs.Wedge.{WedgeValues}
use Rattle.desk_ribbon.specs.Ribbon.{ribbon}
use Rattle.desk_caster.specs.Caster.{Line as CastLine, cast}
use Rattle.desk_caster.specs.Reading.{IsRibbon}
use Rattle.desk_job.specs.Job.{job}
use Rattle.desk_job.specs.declared.JobFault.{JobFault}
use Rattle.feed_files.specs.Files.{Shelf}
use Rattle.script_answers.specs.Reply.{ReplyValues, Refused, lines_reported}
use Rattle.script_answers.specs.Reply as replies
use Rattle.script_answers.specs.declared.text.Refusal.{Refusal}
use Rattle.script_answers.specs.Inputs.{BothGive, BothLackMemory}
use Rattle.script_answers.specs.declared.job.Wanted.{Wanted}
use Rattle.script_answers.specs.declared.job.Wanted.TheVariants as wants

-- the job of a set: the rows of its ribbon, or its faults
abbrev pub job_of : OpSet → CaseValues → WedgeValues → Result (List RibbonRow) (List JobFault)
job_of set case wedge = job (copy_of set) (setting_of set) case wedge

abbrev pub ReportsRibbon : Result (List RibbonRow) (List JobFault) → ReplyValues → Type 0
ReportsRibbon (Ok rows) reply = reply ≡ replies.Ribbon (ribbon rows)
ReportsRibbon (Err faults) reply = reply ≡ replies.NoRibbon faults

-- bytes are read as a ribbon, and its rows are cast
abbrev pub ReportsCast : CaseValues → WedgeValues → List ℕ → ReplyValues → Type 0
ReportsCast case wedge bytes reply =
    (rows : List RibbonRow) × IsRibbon bytes rows
    × ((lines : List CastLine) × (cast case wedge rows ≡ Ok lines) × (reply ≡ replies.Lines (lines_reported lines)))

abbrev pub ReportsLines : CaseValues → WedgeValues → Result (List RibbonRow) (List JobFault) → ReplyValues → Type 0
ReportsLines case wedge (Ok rows) reply = ReportsCast case wedge (ribbon rows) reply
ReportsLines case wedge (Err faults) reply = reply ≡ replies.NoRibbon faults

-- what is wanted of a job, or its faults
abbrev pub ReportsJob : Wanted → CaseValues → WedgeValues → Result (List RibbonRow) (List JobFault) → ReplyValues
    → Type 0
ReportsJob wants.Ribbon case wedge job reply = ReportsRibbon job reply
ReportsJob wants.Lines case wedge job reply = ReportsLines case wedge job reply

abbrev pub IsJobOf : Wanted → OpSet → CaseValues → WedgeValues → ReplyValues → Type 0
IsJobOf wanted set case wedge reply = ReportsJob wanted case wedge (job_of set case wedge) reply

-- both files are read by their names, whatever they give, and the reply is what is wanted of the job by them, or the
-- first refusal
abbrev pub IsJobByFiles : Wanted → OpSet → List ℕ → List ℕ → Shelf → ReplyValues → Shelf → Type 0
IsJobByFiles wanted set of_case of_wedge before reply after =
    (given : Result (CaseValues × WedgeValues) Refusal) × BothGive of_case of_wedge before given after
    × MatchResult given (λ both. IsJobOf wanted set both.0 both.1 reply) (λ why. reply ≡ Refused why)

-- memory ran out by one of the files, or once both had given a case and a wedge: no file has changed, and the device
-- did not fail
abbrev pub JobLacksMemory : List ℕ → List ℕ → Shelf → Shelf → Type 0
JobLacksMemory of_case of_wedge before after =
    BothLackMemory of_case of_wedge before after
    ⊎ ((after ≡ before) × (both : CaseValues × WedgeValues) × BothGive of_case of_wedge before (Ok both) after)
