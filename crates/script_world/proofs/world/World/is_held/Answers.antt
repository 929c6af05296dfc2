use Rattle.script_world.proofs.HeldBy.{held_at}
use Rattle.script_world.proofs.world.World.is_held.Goals as goal

pub returns : goal.returns
returns g c = held_at c.self.inside.sites.entries c.args.self.now c.args.op.now _ c.self.invariant.distinct c.self.view_is c.any_holds.ensures
