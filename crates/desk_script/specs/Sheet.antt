-- A sheet of commands: how its lines are answered, and where a strict run stops.
use Rattle.std.specs.Prelude.{◌≡◌, ℕ, ◌+◌, ◌==◌, ◌&&◌, Bool, true, false, MatchBool, List, [], ◌∷◌, ◌++◌, length, codes}
use Rattle.std.specs.Prelude.{Option, None, Some, if◌then◌else◌}
use Rattle.std.specs.Fmt.{decimal}
use Rattle.std.specs.Io.KnownBytes.{Appends, IsAtEnd}
use Rattle.script_answers.specs.Reply.{ReplyValues, Done, Made, MadeMany, Counted, Copy, Feed, Faults, Settings, Ribbon}
use Rattle.script_answers.specs.Reply.{NoRibbon, Lines, Refused, Stopped}
use Rattle.script_answers.specs.Text.{text}
use Rattle.feed_files.specs.Input.{HasTaken, IsInput, IsNotWhole, IsReadTo}
use Rattle.desk_script.specs.Desk.{Desk}
use Rattle.desk_script.specs.Line.{Line, Bytes, Long, Allows}
use Rattle.feed_stored.specs.Sending.{WritesPrefix}
use Rattle.desk_script.specs.Lines.{lines}
use Rattle.feed_files.specs.declared.input.ReaderFault.TheVariants as readers
use Rattle.desk_script.specs.declared.fault.RunFault.{RunFault}
use Rattle.desk_script.specs.declared.fault.RunFault.TheVariants as runs
use Rattle.desk_script.specs.declared.sheet_fault.SheetFault.{SheetFault}
use Rattle.desk_script.specs.declared.sheet_fault.SheetFault.TheVariants as faults
use Rattle.desk_script.specs.declared.sheet.Mode.{Mode}

-- ---- one line

-- an empty line, or one that begins with `#` and is not too long
abbrev pub is_passed_over : Line → Bool
is_passed_over (Bytes []) = true
is_passed_over (Bytes (b ∷ bytes)) = b == 35
is_passed_over Long = false

-- a reply that stops a strict run
abbrev pub is_refusal : ReplyValues → Bool
is_refusal Done = false
is_refusal (Made stamp) = false
is_refusal (MadeMany first last) = false
is_refusal (Counted new known) = false
is_refusal (Copy copy) = false
is_refusal (Feed feed) = false
is_refusal (Faults faults) = false
is_refusal (Settings settings) = false
is_refusal (Ribbon ribbon) = false
is_refusal (NoRibbon faults) = false
is_refusal (Lines lines) = false
is_refusal (Refused why) = true
is_refusal (Stopped taken why) = true

-- what stands before the answer of line n
abbrev pub head : Mode → ℕ → List ℕ
head mode n = if mode.number then decimal n ++ codes " " else []

-- the answer of line n, with its end
abbrev pub answer_line : Mode → ℕ → ReplyValues → List ℕ
answer_line mode n reply = head mode n ++ text reply ++ 10 ∷ []

-- line n is answered by a reply that does or does not stop the run, and its answer stands after those before
abbrev pub IsAnswered : Mode → Bool → ℕ → Desk → List ℕ → Line → Desk → List ℕ → Type 0
IsAnswered mode stops n old before line new after =
    (reply : ReplyValues) × Allows old line reply new × ((mode.strict && is_refusal reply) ≡ stops)
    × (after ≡ before ++ answer_line mode n reply)

-- line n is passed over, or answered and the run goes on
abbrev pub Reports : Mode → ℕ → Desk → List ℕ → Line → Desk → List ℕ → Type 0
Reports mode n old before line new after =
    MatchBool (mode.strict && is_passed_over line) ((new ≡ old)
    × (after ≡ before)) (IsAnswered mode false n old before line new after)

-- line n is answered, and stops the run
abbrev pub Stops : Mode → ℕ → Desk → List ℕ → Line → Desk → List ℕ → Type 0
Stops mode n old before line new after = ((mode.strict && is_passed_over line) ≡ false)
    × IsAnswered mode true n old before line new after

-- ---- all lines

-- the lines from line n on are answered or passed over, and none stops the run
abbrev pub AreReported : Mode → ℕ → Desk → List ℕ → List Line → Desk → List ℕ → Type 0
AreReported mode n old before [] new after = (new ≡ old) × (after ≡ before)
AreReported mode n old before (line ∷ lines) new after =
    (mid : Desk) × (reported : List ℕ) × Reports mode n old before line mid reported
    × AreReported mode (n + 1) mid reported lines new after

-- the lines before line k are answered or passed over, and that stops the run
abbrev pub StopsAt : Mode → Desk → List ℕ → List Line → ℕ → Desk → List ℕ → Type 0
StopsAt mode old before lines k new after =
    (prefix tail : List Line) × (line : Line) × (lines ≡ prefix ++ line ∷ tail) × (k ≡ length prefix + 1)
    × (mid : Desk) × (reported : List ℕ) × AreReported mode 1 old before prefix mid reported
    × Stops mode k mid reported line new after

-- all lines are answered or passed over, or the line of this number stops the run
abbrev pub Ends : Mode → Desk → List ℕ → List Line → Option ℕ → Desk → List ℕ → Type 0
Ends mode old before lines None new after = AreReported mode 1 old before lines new after
Ends mode old before lines (Some k) new after = StopsAt mode old before lines k new after

-- ---- a run

-- the most bytes of a sheet
abbrev pub max_sheet : ℕ
max_sheet = 67108864

-- how far a reader was read whose sheet was not answered
abbrev pub IsLeft : Option (List ℕ) → Option (List ℕ) → RunFault → Type 0
IsLeft before after runs.Read = IsReadTo max_sheet before after readers.Failed
IsLeft before after runs.TooLong = IsReadTo max_sheet before after readers.TooLong
IsLeft before after runs.NoMemory = HasTaken max_sheet before after
IsLeft before after runs.Write = IsAtEnd after
IsLeft before after (runs.Feed why) = ⊥
IsLeft before after (runs.File why) = ⊥
IsLeft before after (runs.Opening why) = ⊥

-- the answers to all that a reader has left, to the end or to the line of this number
abbrev pub IsReported : Mode → Desk → Desk → Option (List ℕ) → Option ℕ → List ℕ → Type 0
IsReported mode old new input end reported = (bytes : List ℕ) × IsInput input bytes
    × Ends mode old [] (lines bytes) end new reported

-- they were written
abbrev pub IsWritten : Mode → Desk → Desk → Option (List ℕ) → Option (List ℕ) → Option (List ℕ) → Option ℕ → Type 0
IsWritten mode old new input before after end = (reported : List ℕ) × IsReported mode old new input end reported
    × Appends before after reported

-- no line stopped the run, and the answers were written
abbrev pub IsDone : Mode → Desk → Desk → Option (List ℕ) → Option (List ℕ) → Option (List ℕ) → Type 0
IsDone mode old new input before after = IsWritten mode old new input before after None

-- Why a sheet was not answered, and what was written: nothing, or a prefix of the answers. Where the sheet could not
-- be read, no line was carried out.
abbrev pub IsUnanswered : Mode → Desk → Desk → Option (List ℕ) → Option (List ℕ) → Option (List ℕ) → RunFault → Type 0
IsUnanswered mode old new input before after runs.Read = (new ≡ old) × (after ≡ before)
IsUnanswered mode old new input before after runs.TooLong = (new ≡ old) × (after ≡ before)
    × IsNotWhole max_sheet input readers.TooLong
IsUnanswered mode old new input before after runs.NoMemory = after ≡ before
IsUnanswered mode old new input before after runs.Write =
    (end : Option ℕ) × (reported : List ℕ) × IsReported mode old new input end reported
    × WritesPrefix before after reported
IsUnanswered mode old new input before after (runs.Feed why) = ⊥
IsUnanswered mode old new input before after (runs.File why) = ⊥
IsUnanswered mode old new input before after (runs.Opening why) = ⊥

-- why a run stopped, and what was written: all answers up to that of the line that stopped it, or not all
abbrev pub IsStopped : Mode → Desk → Desk → Option (List ℕ) → Option (List ℕ) → Option (List ℕ) → SheetFault → Type 0
IsStopped mode old new input before after (faults.Line k) = IsWritten mode old new input before after (Some k)
IsStopped mode old new input before after (faults.Older made held) = ⊥
IsStopped mode old new input before after (faults.Run why) = IsUnanswered mode old new input before after why

-- how far the reader of a run that stopped was read
abbrev pub LeavesOff : Option (List ℕ) → Option (List ℕ) → SheetFault → Type 0
LeavesOff before after (faults.Line k) = IsAtEnd after
LeavesOff before after (faults.Older made held) = ⊥
LeavesOff before after (faults.Run why) = IsLeft before after why
