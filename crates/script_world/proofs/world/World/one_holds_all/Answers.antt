use Rattle.script_world.proofs.HeldBy.{one-holds_all}
use Rattle.script_world.proofs.world.World.one_holds_all.Goals as goal

pub returns : goal.returns
returns g c = one-holds_all c.self.inside.sites.entries c.args.self.now c.args.ops.now _ c.self.invariant.distinct c.self.view_is c.any_holds_all.ensures
