-- One reply: memory aside, a desk, its lines and what the files gave say what is answered, and which desk is left.
use Rattle.std.specs.Prelude.{◌≡◌, ◌≢◌, ℕ, List}
use Rattle.std.specs.List.{AllByRecursion}
use Rattle.script_answers.specs.Reply.{ReplyValues, Refused, Stopped}
use Rattle.script_answers.specs.declared.text.Refusal.TheVariants as refusals
use Rattle.script_world.specs.OneAnswer.{AreWithin}
use Rattle.desk_script.specs.Desk.{Desk}
use Rattle.desk_script.specs.Line.{Line, Allows}
use Rattle.desk_script.specs.Script.{Script}
use Rattle.desk_script.specs.Reads.{line_reads, script_reads}

-- memory was refused neither at once nor after some operations
abbrev pub HasMemory : ReplyValues → Type 0
HasMemory reply = (reply ≢ Refused refusals.Memory) × ((taken : ℕ) → reply ≢ Stopped taken refusals.Memory)

abbrev pub AllHaveMemory : List ReplyValues → Type 0
AllHaveMemory replies = AllByRecursion HasMemory replies

-- ---- the law

pub record OneReply : Type 0 where
  -- whatever a script does, no site comes to hold more than may be held
  pub keeps : (old new : Desk) (lines : List Line) (replies : List ReplyValues)
      → AreWithin old.sites → Script old lines replies new → AreWithin new.sites
  -- where the files gave the same, a line has one reply, and leaves the same desk
  pub one_line : (old new other : Desk) (line : Line) (reply answer : ReplyValues)
      (a : Allows old line reply new) (b : Allows old line answer other)
      → AreWithin old.sites → HasMemory reply → HasMemory answer
      → line_reads old line reply new a ≡ line_reads old line answer other b
      → (reply ≡ answer) × (new ≡ other)
  -- and so have lines one after the other
  pub one_script : (old new other : Desk) (lines : List Line) (replies answers : List ReplyValues)
      (a : Script old lines replies new) (b : Script old lines answers other)
      → AreWithin old.sites → AllHaveMemory replies → AllHaveMemory answers
      → script_reads old lines replies new a ≡ script_reads old lines answers other b
      → (replies ≡ answers) × (new ≡ other)
