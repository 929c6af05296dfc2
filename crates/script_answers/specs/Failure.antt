-- Why nothing was done, and what a call that changes nothing is answered.
use Rattle.std.specs.Prelude.{Option, Some, None, Result, Ok, Err, option_map}
use Rattle.desk_replica.specs.declared.Refusal.{Refusal as EditRefusal}
use Rattle.desk_replica.specs.declared.Refusal.TheVariants as edits
use Rattle.desk_case.specs.File as cases
use Rattle.desk_case.specs.declared.CaseFault.{CaseFault}
use Rattle.desk_wedge.specs.File as wedges
use Rattle.desk_wedge.specs.declared.WedgeFault.{WedgeFault}
use Rattle.feed_files.specs.declared.files.FileRefusal.{FileRefusal}
use Rattle.feed_files.specs.declared.files.FileRefusal.TheVariants as files
use Rattle.script_answers.specs.declared.text.Refusal.{Refusal}
use Rattle.script_answers.specs.declared.text.Refusal.TheVariants as refusals
use Rattle.script_answers.specs.declared.text.Reply.{Reply}
use Rattle.script_answers.specs.declared.failure.Failure.{Failure}
use Rattle.script_answers.specs.declared.failure.Failure.TheVariants as failures
use Rattle.script_answers.specs.Reply.{ReplyValues, Refused, reply_values}

-- refused for this, or out of memory
abbrev pub failure : Option Refusal → Failure
failure (Some why) = failures.Refused why
failure None = failures.NoMemory

-- the refusal that a command is answered then
abbrev pub refusal_of : Failure → Refusal
refusal_of (failures.Refused why) = why
refusal_of failures.NoMemory = refusals.Memory

-- it holds of the reply, unless memory was refused
abbrev pub IfReplied : {A : Type 0} → Result (Reply A) Failure → (ReplyValues → Type 0) → Type 0
IfReplied (Ok reply) Holds = Holds (reply_values reply)
IfReplied (Err (failures.Refused why)) Holds = Holds (Refused why)
IfReplied (Err failures.NoMemory) Holds = Unit {0}

-- the refusal that says why a file was not read
abbrev pub file_refused : FileRefusal → Option Refusal
file_refused files.Missing = Some refusals.FileMissing
file_refused files.Device = Some refusals.FileDevice
file_refused files.Large = Some refusals.FileLarge
file_refused files.NoMemory = None

-- the refusals that give the number of a fault
abbrev pub case_refused : CaseFault → Option Refusal
case_refused fault = option_map refusals.Case (cases.fault_number fault)

abbrev pub wedge_refused : WedgeFault → Option Refusal
wedge_refused fault = option_map refusals.Wedge (wedges.fault_number fault)

abbrev pub edit_refused : EditRefusal → Option Refusal
edit_refused edits.Full = Some refusals.Full
edit_refused edits.ClockFull = Some refusals.Clock
edit_refused edits.Place = Some refusals.Place
edit_refused edits.Value = Some refusals.Value
edit_refused edits.NoMemory = None
