-- What the files gave to a script: the reads that its answers went by, in their order.
use mathlib.Core.Logic.{inl, inr}
use Rattle.std.specs.Prelude.{◌≡◌, ℕ, List, [], ◌∷◌, ◌++◌, Option, Some, None, Result, Ok, Err, MatchOption}
use Rattle.desk_ops.specs.OpSet.{OpSet}
use Rattle.desk_case.specs.Case.{CaseValues}
use Rattle.desk_wedge.specs.Wedge.{WedgeValues}
use Rattle.feed_files.specs.Files.{Shelf}
use Rattle.feed_files.specs.declared.files.FileRefusal.{FileRefusal}
use Rattle.script_answers.specs.Inputs.{BothGive, ThenWedge}
use Rattle.script_answers.specs.Job.{IsJobByFiles}
use Rattle.script_answers.specs.Reply.{ReplyValues}
use Rattle.script_answers.specs.declared.job.Wanted.{Wanted}
use Rattle.script_answers.specs.declared.job.Wanted.TheVariants as wants
use Rattle.script_answers.specs.declared.text.Refusal.{Refusal}
use Rattle.script_answers.specs.declared.text.Refusal.TheVariants as refusals
use Rattle.script_answers.specs.Command.{CommandValues, Ribbon, Cast}
use Rattle.script_answers.specs.Grammar.{command_of}
use Rattle.desk_script.specs.Act.{Performs, Refuses}
use Rattle.desk_script.specs.Desk.{Desk}
use Rattle.desk_script.specs.Event.{set_of}
use Rattle.desk_script.specs.Line.{Line, Bytes, Long, Allows, IsAnswered}
use Rattle.desk_script.specs.Script.{Script}

-- a read of a file: what it gave, and how often the device had failed then
pub record FileRead : Type 0 where
  pub gave : Result (List ℕ) FileRefusal
  pub failures : ℕ

abbrev pub file_read : Result (List ℕ) FileRefusal → Shelf → FileRead
file_read gave after = record { gave = gave; failures = after.failures }

-- the wedge file is read where the other gave a case
abbrev pub wedge_reads : (name : List ℕ) (case : Result CaseValues Refusal) (mid : Shelf)
    (given : Result (CaseValues × WedgeValues) Refusal) (after : Shelf) → ThenWedge name case mid given after
    → List FileRead
wedge_reads name (Err why) mid given after ends = []
wedge_reads name (Ok case) mid given after ends = file_read ends.1.1 after ∷ []

-- the case file is read, and then the wedge file
abbrev pub both_reads : (of_case of_wedge : List ℕ) (before : Shelf)
    (given : Result (CaseValues × WedgeValues) Refusal) (after : Shelf) → BothGive of_case of_wedge before given after
    → List FileRead
both_reads of_case of_wedge before given after both =
    file_read both.1.1.1 both.1.0 ∷ wedge_reads of_wedge both.0 both.1.0 given after both.1.2

-- a job reads where its site is there
abbrev pub job_reads : (wanted : Wanted) (old : Desk) (site : Option OpSet) (of_case of_wedge : List ℕ)
    (reply : ReplyValues) (new : Desk)
    → MatchOption site (Refuses old refusals.Site reply new)
    (λ set. (new.sites ≡ old.sites) × IsJobByFiles wanted set of_case of_wedge old.shelf reply new.shelf)
    → List FileRead
job_reads wanted old None of_case of_wedge reply new done = []
job_reads wanted old (Some set) of_case of_wedge reply new done =
    both_reads of_case of_wedge old.shelf done.1.0 new.shelf done.1.1

-- no command but `ribbon` and `cast` reads a file
abbrev pub command_reads : (old : Desk) (command : CommandValues) (reply : ReplyValues) (new : Desk)
    → Performs old command reply new → List FileRead
command_reads old (Ribbon n case wedge) reply new done =
    job_reads wants.Ribbon old (set_of old.sites n) case wedge reply new done
command_reads old (Cast n case wedge) reply new done =
    job_reads wants.Lines old (set_of old.sites n) case wedge reply new done
command_reads old other reply new done = []

-- the reads of a line of this command, or of none
abbrev pub form_reads : (old : Desk) (command : Option CommandValues) (reply : ReplyValues) (new : Desk)
    → MatchOption command (Refuses old refusals.Command reply new) (λ c. Performs old c reply new) → List FileRead
form_reads old None reply new done = []
form_reads old (Some command) reply new done = command_reads old command reply new done

abbrev pub answer_reads : (old : Desk) (line : Line) (reply : ReplyValues) (new : Desk) → IsAnswered old line reply new
    → List FileRead
answer_reads old Long reply new done = []
answer_reads old (Bytes bytes) reply new done = form_reads old (command_of bytes) reply new done

-- the reads of a line; where memory was refused to it they do not count
abbrev pub line_reads : (old : Desk) (line : Line) (reply : ReplyValues) (new : Desk) → Allows old line reply new
    → List FileRead
line_reads old line reply new (inl answered) = answer_reads old line reply new answered
line_reads old line reply new (inr refused) = []

-- the reads of a script: those of its lines
abbrev pub script_reads : (old : Desk) (lines : List Line) (replies : List ReplyValues) (new : Desk)
    → Script old lines replies new → List FileRead
script_reads old [] [] new done = []
script_reads old (line ∷ lines) (reply ∷ replies) new done =
    line_reads old line reply done.0 done.1 ++ script_reads done.0 lines replies new done.2
script_reads old [] (reply ∷ replies) new done = []
script_reads old (line ∷ lines) [] new done = []
