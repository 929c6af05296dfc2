use Rattle.std.proofs.Common.{◌+◌, ◌∙◌, sym, ap, subst, map, take, arith}
use Rattle.script_world.specs.World.{event_values}
use Rattle.script_world.specs.Plays.{Plays}
use Rattle.script_world.proofs.Played.{plays_on}
use Rattle.script_world.proofs.world.World.play.Goals as goal

pub loop-event-preserved : goal.loop-event-preserved
loop-event-preserved g c = record {
  played = subst (λ answers. Plays c.args.self.now (map event_values (take (c.loop-event.event-index + 1) c.args.events.now)) answers c.step.new.self) (sym c.push_reserved.ensures.items)
      (plays_on c.args.self.now c.loop-event.self c.step.new.self c.args.events.now c.loop-event.event-index _ c.loop-event.answers.items c.step.result c.loop-event-test.true c.loop-event.invariant.played c.step.ensures.steps);
  filled = c.push_reserved.ensures.len ∙ ap (λ n. n + 1) c.loop-event.invariant.filled;
  room = omega (arith, c.push_reserved.ensures.capacity, c.loop-event.invariant.room);
  honest = λ honest. c.step.ensures.honest (c.loop-event.invariant.honest honest);
}
