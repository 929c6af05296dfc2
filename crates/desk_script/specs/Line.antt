-- A line of a script, and the answer that it may get.
use Rattle.std.specs.Prelude.{ℕ, ◌⊎◌, nat_le, List, length, MatchOption, if◌then◌else◌}
use Rattle.script_answers.specs.Reply.{ReplyValues}
use Rattle.script_answers.specs.declared.text.Refusal.TheVariants as refusals
use Rattle.script_answers.specs.Grammar.{command_of}
use Rattle.desk_script.specs.Act.{LacksMemory, Performs, Refuses}
use Rattle.desk_script.specs.Desk.{Desk}

-- the most bytes of a command's line, without its end
abbrev pub max_line : ℕ
max_line = 65536

-- a line without its end: its bytes, where they are no more than that
pub data Line : Type 0 where
  Bytes : List ℕ → Line
  Long : Line

abbrev pub line_of : List ℕ → Line
line_of bytes = if nat_le (length bytes) max_line then Bytes bytes else Long

-- the answer of a line for which there is memory, and what it leaves
abbrev pub IsAnswered : Desk → Line → ReplyValues → Desk → Type 0
IsAnswered old Long reply new = Refuses old refusals.Line reply new
IsAnswered old (Bytes bytes) reply new =
    MatchOption (command_of bytes) (Refuses old refusals.Command reply new) (λ command. Performs old command reply new)

-- a line that is not too long
abbrev pub Fits : Line → Type 0
Fits Long = ⊥
Fits (Bytes bytes) = Unit {0}

-- the answer that a line may get, and what it leaves: to any line memory may be refused, but to one that is too long
abbrev pub Allows : Desk → Line → ReplyValues → Desk → Type 0
Allows old line reply new = IsAnswered old line reply new ⊎ (Fits line × LacksMemory old reply new)
