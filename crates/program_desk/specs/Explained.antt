-- The second line on standard error of a run that stopped: which file it was, or which end of the program, and why.
use Rattle.std.specs.Prelude.{◌≡◌, ◌⊎◌, ⊤, ℕ, Bool, true, List, [], ◌++◌, MatchBool, Option, codes}
use Rattle.std.specs.Fmt.{decimal}
use Rattle.clap.specs.Words.{Text}
use Rattle.program_desk.specs.Told.{GoesOn, IsNamed, IsShown, Tells}
use Rattle.text_copy.specs.declared.fault.Cause as texts
use Rattle.view_proof.specs.declared.reasons.OtherNumber.{OtherNumber}
use Rattle.view_proof.specs.declared.reasons.OtherNumber.TheVariants as others
use Rattle.program_desk.specs.declared.causes.Cause.{Cause}
use Rattle.program_desk.specs.declared.causes.Cause.TheVariants as causes
use Rattle.program_desk.specs.declared.causes.Output.{Output}
use Rattle.program_desk.specs.declared.causes.Output.TheVariants as outputs
use Rattle.program_desk.specs.Headlines.{flaw_words, head_line}

-- a line on a file, which says something of it
abbrev pub IsOf : Text → List ℕ → Type 0
IsOf name line = (words : List ℕ) × IsNamed name words line

-- what is said of a site's counters, made and held
abbrev pub older_words : ℕ → ℕ → ℕ → List ℕ
older_words site made held = codes ": site " ++ (decimal site ++ (codes " made " ++ (decimal made
    ++ (codes " here, and it holds " ++ (decimal held ++ codes "\n")))))

-- the place of a text that is no symbol of a copy, and why
abbrev pub place_words : ℕ → ℕ → texts.Cause → List ℕ
place_words line column why =
    codes ": line " ++ (decimal line ++ (codes ", column " ++ (decimal column ++ flaw_words why)))

-- what follows the name of a case or a wedge whose number is not that of its setting in a feed
abbrev pub other_words : OtherNumber → List ℕ → List ℕ
other_words (others.Case set number) feed = (codes ": it is case " ++ (decimal number ++ codes ", and "))
    ++ (feed ++ (codes " has the setting case " ++ (decimal set ++ codes "\n")))
other_words (others.Wedge set number) feed = (codes ": it is wedge " ++ (decimal number ++ codes ", and "))
    ++ (feed ++ (codes " has the setting wedge " ++ (decimal set ++ codes "\n")))

-- what is said of an output that would take the place of its source
abbrev pub source_words : Output → List ℕ
source_words outputs.Ribbon = codes ": the ribbon would take its place\n"
source_words outputs.Picture = codes ": the picture would take its place\n"
source_words outputs.Document = codes ": the document would take its place\n"

-- The line on a cause. What files say of a refusal themselves, and what is said of a number, a case or a wedge, is any
-- text. Of a feed's fault and a kind the line has the name of the file, and any text.
abbrev pub IsExplained : Cause → List ℕ → Type 0
IsExplained (causes.Said said) line = line ≡ []
IsExplained (causes.NoMemory feed) line = IsNamed feed.now (codes ": out of memory\n") line
IsExplained (causes.File name) line = ⊤
IsExplained (causes.Feed feed fault) line = IsOf feed.now line
IsExplained (causes.TooMany feed) line =
    IsNamed feed.now (codes ": it has more operations than a desk can hold\n") line
IsExplained (causes.Full feed) line =
    IsNamed feed.now (codes ": with its operations there would be more than a desk can hold\n") line
IsExplained (causes.Unfit feed why) line = IsNamed feed.now (codes ": the text does not fit into it\n") line
IsExplained (causes.Older feed site made held) line = IsNamed feed.now (older_words site made held) line
IsExplained (causes.Taken name kind) line = IsOf name.now line
IsExplained (causes.There name) line = IsNamed name.now (codes ": it is there already\n") line
IsExplained (causes.Source name output) line = IsNamed name.now (source_words output) line
IsExplained (causes.Number site why) line = ⊤
IsExplained (causes.CaseOrWedge case wedge why) line = ⊤
IsExplained (causes.Case case why) line = ⊤
IsExplained (causes.CopyFaults feed) line = IsNamed feed.now (codes ": its copy has faults\n") line
IsExplained (causes.NoRibbon feed) line = IsNamed feed.now (codes ": its job has faults\n") line
IsExplained (causes.Other name feed other) line = (shown : List ℕ) × (owner : List ℕ) × IsShown name.now shown
    × IsShown feed.now owner × (line ≡ shown ++ other_words other owner)
IsExplained (causes.Unread name row column why) line = (shown : List ℕ) × IsShown name.now shown
    × (line ≡ shown ++ place_words row column why)
IsExplained (causes.LongText name) line =
    IsNamed name.now (codes ": it has more than 8388608 bytes, or 1048576 symbols\n") line
IsExplained (causes.LongRibbon name) line = IsNamed name.now (codes ": it would have more than 67108864 bytes\n") line
IsExplained (causes.NoSetting text) line = (shown : List ℕ) × IsShown text.now shown
    × (line ≡ codes "--set " ++ (shown ++ codes ": no setting, or no value that it may have\n"))
IsExplained (causes.Line feed number) line = (shown : List ℕ) × IsShown feed.now shown
    × (line ≡ codes "standard input: the answer to line " ++ (decimal number ++ (codes " says why; " ++ (shown
    ++ codes " is as it was\n"))))
IsExplained causes.Input line = line ≡ codes "standard input: it cannot be read\n"
IsExplained causes.Endless line = line ≡ codes "standard input: it has no end\n"
IsExplained (causes.TooLong most) line =
    line ≡ codes "standard input: it has more than " ++ decimal most ++ codes " bytes\n"
IsExplained causes.Output line = line ≡ codes "standard output: it cannot be written\n"
IsExplained causes.ReportOutput line = line ≡ codes "standard output: it cannot be written\n"

-- what was written goes on by the line on a cause
abbrev pub IsExplainedBy : Cause → Bool → Bool → Option (List ℕ) → Option (List ℕ) → Type 0
IsExplainedBy cause begun whole middle after = (line : List ℕ) × IsExplained cause line
    × GoesOn begun whole middle after line

-- where it is asked for, and else nothing is written
abbrev pub ExplainsIf : Bool → Cause → Bool → Bool → Option (List ℕ) → Option (List ℕ) → Type 0
ExplainsIf asked cause begun whole middle after = MatchBool asked (IsExplainedBy cause begun whole middle after)
    ((whole ≡ begun) × (after ≡ middle))

-- the lines on a cause: a first one and, where it is asked for, a second
abbrev pub AreLines : Bool → Cause → List ℕ → Type 0
AreLines asked cause lines = MatchBool asked
    ((second : List ℕ) × IsExplained cause second × (lines ≡ head_line cause ++ second)) (lines ≡ head_line cause)

-- these lines were written; or, where standard error failed, a prefix of them
abbrev pub TellsOf : Bool → Cause → Bool → Option (List ℕ) → Option (List ℕ) → Type 0
TellsOf asked cause whole before after = (lines : List ℕ) × AreLines asked cause lines × Tells whole before after lines

-- what was written goes on by these lines
abbrev pub TellsMore : Bool → Cause → Bool → Bool → Option (List ℕ) → Option (List ℕ) → Type 0
TellsMore asked cause begun whole middle after = (lines : List ℕ) × AreLines asked cause lines
    × GoesOn begun whole middle after lines

-- nothing more was written
abbrev pub StaysSo : Bool → Bool → Option (List ℕ) → Option (List ℕ) → Type 0
StaysSo begun whole middle after = (whole ≡ begun) × (after ≡ middle)

-- nothing was written
abbrev pub IsSilent : Bool → Option (List ℕ) → Option (List ℕ) → Type 0
IsSilent whole before after = StaysSo true whole before after

-- Both lines were written; nothing is where a report was to go to standard output, which may be closed.
abbrev pub Reports : Cause → Bool → Option (List ℕ) → Option (List ℕ) → Type 0
Reports cause whole before after =
    TellsOf true cause whole before after ⊎ ((cause ≡ causes.ReportOutput) × IsSilent whole before after)

-- what was written goes on so
abbrev pub ReportsMore : Cause → Bool → Bool → Option (List ℕ) → Option (List ℕ) → Type 0
ReportsMore cause begun whole middle after = TellsMore true cause begun whole middle after
    ⊎ ((cause ≡ causes.ReportOutput) × StaysSo begun whole middle after)
