-- Which answers a script may get.
use Rattle.std.specs.Prelude.{◌≡◌, ◌⊎◌, ℕ, true, List, [], ◌∷◌, ◌++◌, Option}
use Rattle.std.specs.Io.KnownBytes.{Appends}
use Rattle.desk_script.specs.Line.{Line}
use Rattle.desk_script.specs.Lines.{lines}
use Rattle.script_answers.specs.Reply.{ReplyValues, Refused, is_long}
use Rattle.script_answers.specs.declared.text.Refusal.TheVariants as refusals
use Rattle.script_answers.specs.Text.{output}
use Rattle.feed_files.specs.Files.{Shelf, Stays}
use Rattle.desk_script.specs.Desk.{Desk}
use Rattle.desk_script.specs.Line.{Allows}
use Rattle.feed_stored.specs.Sending.{WritesPrefix}

-- what is written for a reply: it, or if it is a long one and its text finds no memory, that refusal
abbrev pub IsReported : ReplyValues → ReplyValues → Type 0
IsReported reply reported = (reported ≡ reply) ⊎ ((is_long reply ≡ true) × (reported ≡ Refused refusals.Memory))

-- the answers that lines may get, one for each
abbrev pub Script : Desk → List Line → List ReplyValues → Desk → Type 0
Script old [] [] new = new ≡ old
Script old (line ∷ lines) (reply ∷ replies) new = (mid : Desk) × Allows old line reply mid
    × Script mid lines replies new
Script old [] (reply ∷ replies) new = ⊥
Script old (line ∷ lines) [] new = ⊥

-- all these lines were answered, and the answers written
abbrev pub Turn : Desk → Desk → Option (List ℕ) → Option (List ℕ) → List Line → Type 0
Turn old new before after lines = (replies : List ReplyValues) × Script old lines replies new
    × Appends before after (output replies)

-- the first lines were answered, no file has changed since, and a prefix of their answers was written
abbrev pub StopsWithin : Desk → Shelf → Option (List ℕ) → Option (List ℕ) → List Line → Type 0
StopsWithin old last before after lines =
    (prefix tail : List Line) × (lines ≡ prefix ++ tail) × (new : Desk) × Stays new.shelf last
    × (replies : List ReplyValues) × Script old prefix replies new
    × WritesPrefix before after (output replies)

-- the first lines were answered and each answer was written, no file has changed since, and a line comes after them
abbrev pub StopsBefore : Desk → Shelf → Option (List ℕ) → Option (List ℕ) → List Line → Type 0
StopsBefore old last before after lines =
    (prefix tail : List Line) × (next : Line) × (lines ≡ prefix ++ next ∷ tail) × (new : Desk) × Stays new.shelf last
    × Turn old new before after prefix

-- a whole run over these bytes
abbrev pub Answers : Desk → Desk → List ℕ → Option (List ℕ) → Option (List ℕ) → Type 0
Answers old new input before after = Turn old new before after (lines input)

-- a run over these bytes that stopped before a line, and left the files so
abbrev pub AnswersBefore : Desk → Shelf → List ℕ → Option (List ℕ) → Option (List ℕ) → Type 0
AnswersBefore old last input before after = StopsBefore old last before after (lines input)

-- a run over these bytes that stopped, and left the files so
abbrev pub AnswersPrefix : Desk → Shelf → List ℕ → Option (List ℕ) → Option (List ℕ) → Type 0
AnswersPrefix old last input before after = StopsWithin old last before after (lines input)
