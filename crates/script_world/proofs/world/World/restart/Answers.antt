use Rattle.script_world.proofs.Kept.{kept_reopened, reopened}
use Rattle.script_world.proofs.world.World.restart.Goals as goal

pub invariant_of-self : goal.invariant_of-self
invariant_of-self g c = kept_reopened c.self.inside.sites.entries c.reopen_at.new.sites.entries c.args.site c.reopen_at.result c.self.invariant c.reopen_at.ensures

pub returns : goal.returns
returns g c = reopened c.self.inside.sites.entries c.reopen_at.new.sites.entries c.args.site c.reopen_at.result c.args.self.now c.self.view_is c.reopen_at.ensures
