use Rattle.script_world.specs.World as events
use Rattle.script_world.proofs.Kept.{lawful_sites}
use Rattle.script_world.proofs.Stays.{honest_steps}
use Rattle.script_world.proofs.world.World.step.Goals as goal

pub returns-in-Site-clause-honest : goal.returns-in-Site-clause-honest
returns-in-Site-clause-honest g c =
    honest_steps c.args.self.now c.add_site.new.self (events.Site c.in-Site.site) c.add_site.result (lawful_sites c.self.inside.sites.entries c.args.self.now c.self.invariant c.self.view_is) c.add_site.ensures

pub returns-in-Insert-clause-honest : goal.returns-in-Insert-clause-honest
returns-in-Insert-clause-honest g c =
    honest_steps c.args.self.now c.edit.new.self (events.Insert c.in-Insert.site c.in-Insert.place c.in-Insert.symbol) c.edit.result (lawful_sites c.self.inside.sites.entries c.args.self.now c.self.invariant c.self.view_is) c.edit.ensures

pub returns-in-Delete-clause-honest : goal.returns-in-Delete-clause-honest
returns-in-Delete-clause-honest g c =
    honest_steps c.args.self.now c.edit-in-Delete.new.self (events.Delete c.in-Delete.site c.in-Delete.place) c.edit-in-Delete.result (lawful_sites c.self.inside.sites.entries c.args.self.now c.self.invariant c.self.view_is) c.edit-in-Delete.ensures

pub returns-in-Set-clause-honest : goal.returns-in-Set-clause-honest
returns-in-Set-clause-honest g c =
    honest_steps c.args.self.now c.edit-in-Set.new.self (events.Set c.in-Set.site c.in-Set.key c.in-Set.value) c.edit-in-Set.result (lawful_sites c.self.inside.sites.entries c.args.self.now c.self.invariant c.self.view_is) c.edit-in-Set.ensures

pub returns-in-Give-clause-honest : goal.returns-in-Give-clause-honest
returns-in-Give-clause-honest g c =
    honest_steps c.args.self.now c.give.new.self (events.Give c.in-Give.to c.in-Give.ops.now) c.give.result (lawful_sites c.self.inside.sites.entries c.args.self.now c.self.invariant c.self.view_is) c.give.ensures

pub returns-in-Restart-clause-honest : goal.returns-in-Restart-clause-honest
returns-in-Restart-clause-honest g c =
    honest_steps c.args.self.now c.restart.new.self (events.Restart c.in-Restart.site) c.restart.result (lawful_sites c.self.inside.sites.entries c.args.self.now c.self.invariant c.self.view_is) c.restart.ensures
