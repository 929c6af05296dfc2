use Rattle.std.proofs.Common.{◌≡◌, ◌≤◌, map, length, take}
use Rattle.std.specs.Prelude.{vec_len, vec_capacity}
use Rattle.script_world.specs.World.{event_values}
use Rattle.script_world.specs.Plays.{Plays}
use Rattle.script_world.specs.Honest.{IsHonest}
use Rattle.script_world.proofs.world.World.play.Given as goal

abbrev pub invariant-loop-event : goal.invariant-loop-event
invariant-loop-event g l = record {
  played : Plays l.fn.self (map event_values (take l.event-index l.events)) l.answers.items l.self;
  filled : vec_len l.answers ≡ l.event-index;
  room : length l.events ≤ vec_capacity l.answers;
  honest : IsHonest l.fn.self → IsHonest l.self;
}
