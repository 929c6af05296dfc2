-- What answers say.
use Rattle.std.specs.Prelude.{ℕ, ℤ, length, ◌+◌, ◌/◌, ◌%◌, nat_lt, Bool, true, false, List, [], ◌∷◌, ◌++◌, Option, Some}
use Rattle.std.specs.Prelude.{None, codes, if◌then◌else◌}
use Rattle.std.specs.Fmt.{decimal, signed_decimal}
use Rattle.script_answers.specs.Writing.{copy_text}
use Rattle.desk_ops.specs.declared.op.Symbol.{Symbol}
use Rattle.desk_ops.specs.Words.{copy_fault_words, key_words, stamp_words}
use Rattle.desk_ops.specs.declared.op.Unlawful.{Unlawful}
use Rattle.desk_ops.specs.declared.op.Unlawful.TheVariants as causes
use Rattle.desk_codec.specs.declared.fault.FeedWhy.{FeedWhy}
use Rattle.desk_codec.specs.declared.fault.FeedWhy.TheVariants as faults
use Rattle.desk_ops.specs.declared.fault.CopyFault.{CopyFault}
use Rattle.desk_replica.specs.declared.settings.Settings.{Settings as JobSettings}
use Rattle.desk_job.specs.declared.JobFault.{JobFault}
use Rattle.desk_job.specs.declared.JobFault.TheVariants as jobs
use Rattle.script_answers.specs.Reply.{ReplyValues, Done, Made, MadeMany, Counted, Copy, Feed, Faults, Settings, Ribbon}
use Rattle.script_answers.specs.Reply.{NoRibbon, Lines, Refused, Stopped}
use Rattle.script_answers.specs.declared.text.Refusal.{Refusal}
use Rattle.script_answers.specs.declared.text.Refusal.TheVariants as refusals

-- the number of the cause why an operation is not lawful
abbrev pub cause_number : Unlawful → ℕ
cause_number causes.Counter = 1
cause_number causes.Site = 2
cause_number causes.Target = 3
cause_number causes.Symbol = 4
cause_number causes.Key = 5
cause_number causes.Value = 6

abbrev pub fault_text : FeedWhy → List ℕ
fault_text faults.Magic = codes "magic"
fault_text faults.Kind = codes "kind"
fault_text (faults.Unlawful cause) = codes "unlawful " ++ decimal (cause_number cause)
fault_text faults.Cut = codes "cut"
fault_text faults.Run = codes "run"

abbrev pub refusal_text : Refusal → List ℕ
refusal_text refusals.Line = codes "line"
refusal_text refusals.Command = codes "command"
refusal_text refusals.Number = codes "number"
refusal_text refusals.Known = codes "known"
refusal_text refusals.Sites = codes "sites"
refusal_text refusals.Site = codes "site"
refusal_text refusals.Place = codes "place"
refusal_text refusals.Value = codes "value"
refusal_text (refusals.Feed fault) = codes "feed " ++ decimal fault.at ++ codes " " ++ fault_text fault.why
refusal_text refusals.FileMissing = codes "file missing"
refusal_text refusals.FileDevice = codes "file device"
refusal_text refusals.FileLarge = codes "file large"
refusal_text (refusals.Case n) = codes "case " ++ decimal n
refusal_text (refusals.Wedge n) = codes "wedge " ++ decimal n
refusal_text refusals.Full = codes "full"
refusal_text refusals.Clock = codes "clock"
refusal_text refusals.Memory = codes "memory"

-- a copy behind a space, where there is one
abbrev pub shown_text : List Symbol → List ℕ
shown_text [] = []
shown_text (s ∷ symbols) = codes " " ++ copy_text (s ∷ symbols)

-- a number below 16 in lower case
abbrev pub hex_digit : ℕ → ℕ
hex_digit n = if nat_lt n 10 then 48 + n else 87 + n

-- two digits for each byte
abbrev pub hex_text : List ℕ → List ℕ
hex_text [] = []
hex_text (b ∷ bytes) = hex_digit (b / 16) ∷ hex_digit (b % 16) ∷ hex_text bytes

-- before the first of a list, and before each other
abbrev pub separator : Bool → List ℕ
separator true = codes " "
separator false = codes ", "

-- the words of each, where the next is the first or not
abbrev pub list_text : {T : Type 0} → (T → List ℕ) → Bool → List T → List ℕ
list_text words is_first [] = []
list_text words is_first (x ∷ xs) = separator is_first ++ words x ++ list_text words false xs

abbrev pub faults_text : List CopyFault → List ℕ
faults_text [] = codes "faults none"
faults_text (f ∷ faults) = codes "faults" ++ list_text copy_fault_words true (f ∷ faults)

abbrev pub value_text : Option ℕ → List ℕ
value_text None = codes "-"
value_text (Some value) = decimal value

abbrev pub settings_text : JobSettings → List ℕ
settings_text s =
    codes "measure=" ++ value_text s.measure ++ codes " tight=" ++ value_text s.tight ++ codes " loose="
    ++ value_text s.loose
    ++ codes " case=" ++ value_text s.case ++ codes " wedge=" ++ value_text s.wedge

abbrev pub job_fault_text : JobFault → List ℕ
job_fault_text (jobs.MissingSetting key) = codes "missing " ++ key_words key
job_fault_text jobs.OtherCase = codes "other case"
job_fault_text jobs.OtherWedge = codes "other wedge"
job_fault_text jobs.Crossed = codes "crossed"
job_fault_text jobs.FillOrder = codes "fill order"
job_fault_text jobs.SpaceVanishes = codes "space vanishes"
job_fault_text (jobs.NoMatrix place) = codes "no matrix " ++ decimal place
job_fault_text (jobs.TooWide line) = codes "too wide " ++ decimal line
job_fault_text (jobs.TooLoose line) = codes "too loose " ++ decimal line
job_fault_text (jobs.CannotFill line) = codes "cannot fill " ++ decimal line

-- `MATRICES/TOTAL` of each line, behind a space
abbrev pub lines_text : List (ℕ × ℤ) → List ℕ
lines_text [] = []
lines_text (l ∷ lines) = codes " " ++ decimal l.0 ++ codes "/" ++ signed_decimal l.1 ++ lines_text lines

-- an answer without its end of line
abbrev pub text : ReplyValues → List ℕ
text Done = codes "ok"
text (Made stamp) = codes "ok " ++ stamp_words stamp
text (MadeMany first last) = codes "ok " ++ stamp_words first ++ codes ".." ++ stamp_words last
text (Counted new known) = codes "ok new " ++ decimal new ++ codes " known " ++ decimal known
text (Copy copy) = codes "copy" ++ shown_text copy
text (Feed feed) = codes "feed " ++ hex_text feed
text (Faults faults) = faults_text faults
text (Settings settings) = codes "settings " ++ settings_text settings
text (Ribbon ribbon) = codes "ribbon " ++ hex_text ribbon
text (NoRibbon faults) = codes "no ribbon:" ++ list_text job_fault_text true faults
text (Lines lines) = codes "lines " ++ decimal (length lines) ++ lines_text lines
text (Refused why) = codes "refused " ++ refusal_text why
text (Stopped taken why) = codes "stopped " ++ decimal taken ++ codes " " ++ refusal_text why

-- the lines of a list of answers
abbrev pub output : List ReplyValues → List ℕ
output [] = []
output (r ∷ replies) = text r ++ (10 ∷ output replies)
