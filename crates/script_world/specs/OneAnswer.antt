-- One answer: memory aside, the sites and an event say what is answered, and which sites are left.
use Rattle.std.specs.Prelude.{◌≡◌, ◌≤◌, ℕ, Bool, true, false, List, Result, Ok, Err, IfSome}
use Rattle.std.specs.List.{AllByRecursion}
use Rattle.std.specs.FinMap as fin
use Rattle.desk_ops.specs.OpSet.{size, max_ops}
use Rattle.desk_held.specs.declared.AddRefusal.{AddRefusal}
use Rattle.desk_held.specs.declared.AddRefusal.TheVariants as adds
use Rattle.desk_replica.specs.declared.Refusal.{Refusal as EditRefusal}
use Rattle.desk_replica.specs.declared.Refusal.TheVariants as edits
use Rattle.script_world.specs.declared.world.Answer.{Answer}
use Rattle.script_world.specs.declared.world.StepRefusal.{StepRefusal}
use Rattle.script_world.specs.declared.world.StepRefusal.TheVariants as refusals
use Rattle.script_world.specs.Sites.{Sites, no_sites}
use Rattle.script_world.specs.World.{EventValues, Steps}
use Rattle.script_world.specs.Plays.{Plays}

-- no site holds more than may be held
abbrev pub AreWithin : Sites → Type 0
AreWithin sites = (n : ℕ) → IfSome (fin.get sites n) (λ set. size set ≤ max_ops)

-- ---- refusals for memory

abbrev pub halts_for_memory : AddRefusal → Bool
halts_for_memory adds.Full = false
halts_for_memory adds.NoMemory = true

abbrev pub edit_for_memory : EditRefusal → Bool
edit_for_memory edits.Full = false
edit_for_memory edits.ClockFull = false
edit_for_memory edits.Place = false
edit_for_memory edits.Value = false
edit_for_memory edits.NoMemory = true

-- whether an event was refused as memory ran out
abbrev pub is_for_memory : Result Answer StepRefusal → Bool
is_for_memory (Ok answer) = false
is_for_memory (Err refusals.Number) = false
is_for_memory (Err refusals.KnownSite) = false
is_for_memory (Err refusals.TooManySites) = false
is_for_memory (Err refusals.NoSite) = false
is_for_memory (Err refusals.Strange) = false
is_for_memory (Err (refusals.Edit why)) = edit_for_memory why
is_for_memory (Err (refusals.Halted stop)) = halts_for_memory stop.why
is_for_memory (Err refusals.NoMemory) = true

-- no event was refused as memory ran out
abbrev pub NoneForMemory : List (Result Answer StepRefusal) → Type 0
NoneForMemory answers = AllByRecursion (λ answer. is_for_memory answer ≡ false) answers

-- ---- the law

pub record OneAnswer : Type 0 where
  -- with no site nothing is too much, and whatever happens no site comes to hold more than may be held
  pub begun : AreWithin no_sites
  pub step_keeps : (old new : Sites) (event : EventValues) (answer : Result Answer StepRefusal)
      → AreWithin old → Steps old event answer new → AreWithin new
  pub play_keeps : (old new : Sites) (events : List EventValues) (answers : List (Result Answer StepRefusal))
      → AreWithin old → Plays old events answers new → AreWithin new
  -- an event has one answer, and leaves the same sites
  pub one_step : (old new other : Sites) (event : EventValues) (answer reply : Result Answer StepRefusal)
      → AreWithin old → Steps old event answer new → Steps old event reply other
      → is_for_memory answer ≡ false → is_for_memory reply ≡ false → (answer ≡ reply) × (new ≡ other)
  -- the events of a list have one list of answers, and leave the same sites
  pub one_play : (old new other : Sites) (events : List EventValues)
      (answers replies : List (Result Answer StepRefusal))
      → AreWithin old → Plays old events answers new → Plays old events replies other
      → NoneForMemory answers → NoneForMemory replies → (answers ≡ replies) × (new ≡ other)
