use Rattle.script_world.proofs.Kept.{kept_edited, edited}
use Rattle.script_world.proofs.world.World.edit.Goals as goal

pub invariant_of-self : goal.invariant_of-self
invariant_of-self g c = kept_edited c.self.inside.sites.entries c.edit_at.new.sites.entries c.args.site c.args.change c.edit_at.result c.self.invariant c.edit_at.ensures

pub returns : goal.returns
returns g c = edited c.self.inside.sites.entries c.edit_at.new.sites.entries c.args.site c.args.change c.edit_at.result c.args.self.now c.self.invariant c.self.view_is c.edit_at.ensures
