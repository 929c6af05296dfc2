-- What the events of a list do, one after the other.
use Rattle.std.specs.Prelude.{◌≡◌, List, [], ◌∷◌, Result}
use Rattle.script_world.specs.declared.world.Answer.{Answer}
use Rattle.script_world.specs.declared.world.StepRefusal.{StepRefusal}
use Rattle.script_world.specs.Sites.{Sites}
use Rattle.script_world.specs.World.{EventValues, Steps}

-- each event has one answer, the one at its own place in the list, and steps from the sites that those before it left
abbrev pub Plays : Sites → List EventValues → List (Result Answer StepRefusal) → Sites → Type 0
Plays old [] [] new = new ≡ old
Plays old [] (answer ∷ answers) new = ⊥
Plays old (event ∷ events) [] new = ⊥
Plays old (event ∷ events) (answer ∷ answers) new = (sites : Sites) × Steps old event answer sites
    × Plays sites events answers new
