-- The site that a command names, and what happens there.
use Rattle.std.specs.Prelude.{◌≡◌, ℕ, nat_lt, Option, None, Result, if◌then◌else◌}
use Rattle.std.specs.FinMap as fin
use Rattle.desk_ops.specs.OpSet.{OpSet}
use Rattle.script_answers.specs.NotDone.{event_reply}
use Rattle.script_answers.specs.Reply.{ReplyValues}
use Rattle.script_world.specs.Sites.{Sites}
use Rattle.script_world.specs.World.{Steps}
use Rattle.script_world.specs.World as events
use Rattle.script_world.specs.declared.world.Answer.{Answer}
use Rattle.script_world.specs.declared.world.StepRefusal.{StepRefusal}

-- an event happens, and the reply is that of its result
abbrev pub Happens : Sites → events.EventValues → ReplyValues → Sites → Type 0
Happens old event reply new = (result : Result Answer StepRefusal) × Steps old event result new
    × (event_reply result ≡ reply)

-- nothing changes
abbrev pub Says : ReplyValues → Sites → ReplyValues → Sites → Type 0
Says what old reply new = (reply ≡ what) × (new ≡ old)

-- what the named site holds: no site has a number above 65535
abbrev pub set_of : Sites → ℕ → Option OpSet
set_of sites n = if nat_lt 65535 n then None else fin.get sites n
