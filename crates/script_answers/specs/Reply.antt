-- Answers, without where they lie in memory.
use Rattle.std.specs.Prelude.{ℕ, ℤ, Bool, true, false, List, map, length}
use Rattle.desk_caster.specs.Caster.{Line}
use Rattle.desk_job.specs.declared.JobFault.{JobFault}
use Rattle.desk_ops.specs.declared.op.Stamp.{Stamp}
use Rattle.desk_ops.specs.declared.op.Symbol.{Symbol}
use Rattle.desk_ops.specs.declared.fault.CopyFault.{CopyFault}
use Rattle.desk_replica.specs.declared.settings.Settings.{Settings as JobSettings}
use Rattle.script_answers.specs.declared.text.Refusal.{Refusal}
use Rattle.script_answers.specs.declared.text.Reply.{Reply}
use Rattle.script_answers.specs.declared.text.Reply.TheVariants as replies

-- of each line how many matrices it has, and their width
abbrev pub lines_reported : List Line → List (ℕ × ℤ)
lines_reported lines = map (λ l. (length l.matrices, l.total)) lines

pub data ReplyValues : Type 0 where
  Done : ReplyValues
  Made : Stamp → ReplyValues
  MadeMany : Stamp → Stamp → ReplyValues
  Counted : ℕ → ℕ → ReplyValues
  Copy : List Symbol → ReplyValues
  Feed : List ℕ → ReplyValues
  Faults : List CopyFault → ReplyValues
  Settings : JobSettings → ReplyValues
  Ribbon : List ℕ → ReplyValues
  NoRibbon : List JobFault → ReplyValues
  Lines : List (ℕ × ℤ) → ReplyValues
  Refused : Refusal → ReplyValues
  Stopped : ℕ → Refusal → ReplyValues

abbrev pub reply_values : {A : Type 0} → Reply A → ReplyValues
reply_values replies.Done = Done
reply_values (replies.Made stamp) = Made stamp
reply_values (replies.MadeMany first last) = MadeMany first last
reply_values (replies.Counted new known) = Counted new known
reply_values (replies.Copy copy) = Copy copy.items
reply_values (replies.Feed feed) = Feed feed.items
reply_values (replies.Faults faults) = Faults faults.items
reply_values (replies.Settings settings) = Settings settings
reply_values (replies.Ribbon ribbon) = Ribbon ribbon.items
reply_values (replies.NoRibbon faults) = NoRibbon faults
reply_values (replies.Lines lines) = Lines (lines_reported lines.items)
reply_values (replies.Refused why) = Refused why
reply_values (replies.Stopped taken why) = Stopped taken why

-- an answer that says what there is, at any length; the others are refusals, or say what a command did
abbrev pub is_long : ReplyValues → Bool
is_long Done = false
is_long (Made stamp) = false
is_long (MadeMany first last) = false
is_long (Counted new known) = false
is_long (Copy copy) = true
is_long (Feed feed) = true
is_long (Faults faults) = true
is_long (Settings settings) = true
is_long (Ribbon ribbon) = true
is_long (NoRibbon faults) = true
is_long (Lines lines) = true
is_long (Refused why) = false
is_long (Stopped taken why) = false
