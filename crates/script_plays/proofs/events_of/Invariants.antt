use Rattle.std.proofs.Common.{All}
use Rattle.script_world.specs.World.{IsSound, event_values}
use Rattle.script_plays.proofs.events_of.Given as goal

-- the events so far give what is lawful
abbrev pub invariant-loop-line : goal.invariant-loop-line
invariant-loop-line l = All (λ event. IsSound (event_values event)) l.events.items
