use Rattle.script_world.proofs.Kept.{kept_brought, brought}
use Rattle.script_world.proofs.Stays.{honest_brings}
use Rattle.script_world.proofs.world.World.bring.Goals as goal

pub invariant_of-self : goal.invariant_of-self
invariant_of-self g c = kept_brought c.self.inside.sites.entries c.gain_at.new.sites.entries c.args.site c.args.ops.now c.gain_at.result c.self.invariant c.requires c.gain_at.ensures

pub returns-clause-gained : goal.returns-clause-gained
returns-clause-gained g c = brought c.self.inside.sites.entries c.gain_at.new.sites.entries c.args.site c.args.ops.now c.gain_at.result c.args.self.now c.self.view_is c.gain_at.ensures

pub returns-clause-honest : goal.returns-clause-honest
returns-clause-honest g c held honest =
    honest_brings c.args.self.now _ c.args.site c.args.ops.now c.gain_at.result honest held
    (brought c.self.inside.sites.entries c.gain_at.new.sites.entries c.args.site c.args.ops.now c.gain_at.result c.args.self.now c.self.view_is c.gain_at.ensures)
