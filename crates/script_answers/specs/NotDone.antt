-- Why a command is not carried out, and its answer then.
use Rattle.std.specs.Prelude.{ℕ, ◌==◌, Option, Some, None, Result, Ok, Err, if◌then◌else◌}
use Rattle.desk_ops.specs.Op.{stamp_of}
use Rattle.desk_held.specs.declared.AddRefusal.{AddRefusal}
use Rattle.desk_held.specs.declared.AddRefusal.TheVariants as adds
use Rattle.script_answers.specs.declared.command.ParseError.{ParseError}
use Rattle.script_answers.specs.declared.command.ParseError.TheVariants as parses
use Rattle.script_world.specs.declared.world.Answer.{Answer}
use Rattle.script_world.specs.declared.world.Answer.TheVariants as answers
use Rattle.script_world.specs.declared.world.StepRefusal.{StepRefusal}
use Rattle.script_world.specs.declared.world.StepRefusal.TheVariants as steps
use Rattle.script_answers.specs.declared.text.Refusal.{Refusal}
use Rattle.script_answers.specs.declared.text.Refusal.TheVariants as refusals
use Rattle.script_answers.specs.declared.text.Reply.{Reply}
use Rattle.script_answers.specs.declared.not_done.NotDone.{NotDone}
use Rattle.script_answers.specs.declared.not_done.NotDone.TheVariants as ends
use Rattle.script_answers.specs.Failure.{edit_refused, failure, refusal_of}
use Rattle.script_answers.specs.Reply.{ReplyValues, Done, Made, Counted, Refused, Stopped, reply_values}

-- the reply to a command that is not carried out
abbrev pub reply_of : NotDone → ReplyValues
reply_of (ends.Failed why) = Refused (refusal_of why)
reply_of (ends.Stopped taken why) = Stopped taken why

-- the reply to a command, carried out or not
abbrev pub reply_to : {A : Type 0} → Result (Reply A) NotDone → ReplyValues
reply_to (Ok reply) = reply_values reply
reply_to (Err end) = reply_of end

abbrev pub line_refused : ParseError → Option Refusal
line_refused parses.Form = Some refusals.Command
line_refused parses.NoMemory = None

-- a refusal after so many operations says that these stand
abbrev pub stopped : ℕ → Refusal → ReplyValues
stopped taken why = if taken == 0 then Refused why else Stopped taken why

-- the reply to an event that stopped after so many operations
abbrev pub stopped_after : ℕ → AddRefusal → ReplyValues
stopped_after taken adds.Full = stopped taken refusals.Full
stopped_after taken adds.NoMemory = stopped taken refusals.Memory

-- the reply for what an event returned. No line gives operations that are strange.
abbrev pub event_reply : Result Answer StepRefusal → ReplyValues
event_reply (Ok (answers.Made op)) = Made (stamp_of op)
event_reply (Ok (answers.Taken count)) = Counted count.new count.known
event_reply (Ok answers.Done) = Done
event_reply (Err steps.Number) = Refused refusals.Number
event_reply (Err steps.KnownSite) = Refused refusals.Known
event_reply (Err steps.TooManySites) = Refused refusals.Sites
event_reply (Err steps.NoSite) = Refused refusals.Site
event_reply (Err steps.Strange) = Refused refusals.Site
event_reply (Err (steps.Edit why)) = Refused (refusal_of (failure (edit_refused why)))
event_reply (Err (steps.Halted stop)) = stopped_after stop.taken stop.why
event_reply (Err steps.NoMemory) = Refused refusals.Memory
