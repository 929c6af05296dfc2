-- The line of an answer, and that of the faults of a job.
use Rattle.std.specs.Prelude.{◌≡◌, ℕ, Bool, List, [], ◌∷◌, ◌++◌, map, Option}
use Rattle.desk_ops.specs.declared.op.Key.{Key}
use Rattle.desk_job.specs.Job.{or_faults}
use Rattle.desk_job.specs.declared.JobFault.{JobFault}
use Rattle.desk_job.specs.declared.JobFault.TheVariants.{MissingSetting}
use Rattle.script_answers.specs.Reply.{NoRibbon, ReplyValues}
use Rattle.script_answers.specs.Text.{job_fault_text, separator, text}
use Rattle.feed_stored.specs.Sending.{WritesPrefix}
use Rattle.view_punch.specs.declared.fault.LineFault.{LineFault}
use Rattle.view_punch.specs.declared.fault.LineFault.TheVariants as lines

-- the line of an answer
abbrev pub line_of : ReplyValues → List ℕ
line_of answer = text answer ++ 10 ∷ []

-- the line that the command `ribbon` has for the faults of a job
abbrev pub no_ribbon_line : List JobFault → List ℕ
no_ribbon_line found = line_of (NoRibbon found)

-- a fault for each key that has no value
abbrev pub all_missing : List Key → List JobFault
all_missing keys = map MissingSetting keys

-- one of them, as the first of a line or as another
abbrev pub missing_text : Bool → Key → List ℕ
missing_text is_first key = separator is_first ++ job_fault_text (MissingSetting key)

-- that line for the faults of a job whose settings lack these keys: each of them, where there are any
abbrev pub job_line : List Key → List JobFault → List ℕ
job_line keys found = no_ribbon_line (or_faults (all_missing keys) found)

-- a line was not written: a prefix of it was, or memory ran out before
abbrev pub IsUnreported : List ℕ → Option (List ℕ) → Option (List ℕ) → LineFault → Type 0
IsUnreported line before after lines.NoMemory = after ≡ before
IsUnreported line before after lines.Write = WritesPrefix before after line
