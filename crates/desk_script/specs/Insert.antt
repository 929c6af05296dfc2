-- Symbols inserted one after another.
use Rattle.std.specs.Prelude.{◌≡◌, ◌+◌, ◌&&◌, Bool, true, [], ◌∷◌, ℕ, ◌==◌, List, Option, Some, None, Result, Ok, Err}
use Rattle.std.specs.Prelude.{MatchOption, if◌then◌else◌}
use Rattle.desk_ops.specs.Op.{stamp_of, is_symbol}
use Rattle.desk_ops.specs.declared.op.Op.{Op}
use Rattle.desk_ops.specs.declared.op.Stamp.{Stamp}
use Rattle.desk_ops.specs.declared.op.Symbol.{Symbol}
use Rattle.script_answers.specs.NotDone.{event_reply, stopped}
use Rattle.script_answers.specs.Reply.{ReplyValues, Done, Made, MadeMany, Counted, Copy, Refused, Stopped}
use Rattle.script_answers.specs.Reply as replies
use Rattle.script_world.specs.Sites.{Sites}
use Rattle.script_world.specs.World.{Steps}
use Rattle.script_world.specs.World as events
use Rattle.script_world.specs.declared.world.Answer.{Answer}
use Rattle.script_world.specs.declared.world.Answer.TheVariants as answers
use Rattle.script_world.specs.declared.world.StepRefusal.{StepRefusal}
use Rattle.desk_script.specs.Event.{Says}

-- each symbol is lawful
abbrev pub all_symbols : List Symbol → Bool
all_symbols [] = true
all_symbols (y ∷ ys) = is_symbol y && all_symbols ys

-- a refusal after k edits says that these stand
abbrev pub after : ℕ → ReplyValues → ReplyValues
after k (Refused why) = stopped k why
after k Done = Done
after k (Made stamp) = Made stamp
after k (MadeMany first last) = MadeMany first last
after k (Counted news known) = Counted news known
after k (Copy copy) = Copy copy
after k (replies.Feed bytes) = replies.Feed bytes
after k (replies.Faults faults) = replies.Faults faults
after k (replies.Settings settings) = replies.Settings settings
after k (replies.Ribbon ribbon) = replies.Ribbon ribbon
after k (replies.NoRibbon faults) = replies.NoRibbon faults
after k (replies.Lines lines) = replies.Lines lines
after k (Stopped taken why) = Stopped taken why

abbrev pub made_of : Result Answer StepRefusal → Option Op
made_of (Ok (answers.Made op)) = Some op
made_of (Ok (answers.Taken count)) = None
made_of (Ok answers.Done) = None
made_of (Err why) = None

-- the reply to k edits, by the first stamp and the last
abbrev pub all_made : ℕ → Option (Stamp × Stamp) → ReplyValues
all_made k None = Done
all_made k (Some span) = if k == 1 then Made span.0 else MadeMany span.0 span.1

abbrev pub first_of : Option (Stamp × Stamp) → Stamp → Stamp
first_of None s = s
first_of (Some span) s = span.0

-- symbols are inserted one after another, where k were made before
abbrev pub Inserts : Sites → ℕ → ℕ → List Symbol → ℕ → Option (Stamp × Stamp) → ReplyValues → Sites → Type 0
Inserts old n place [] k made reply new = Says (all_made k made) old reply new
Inserts old n place (y ∷ ys) k made reply new =
    (mid : Sites) × (result : Result Answer StepRefusal) × Steps old (events.Insert n (place + k) y) result mid
    × MatchOption (made_of result) ((after k (event_reply result) ≡ reply) × (new ≡ mid))
    (λ op. Inserts mid n place ys (k + 1) (Some (first_of made (stamp_of op), stamp_of op)) reply new)
