use Rattle.std.proofs.Common.{sym, ap, ◌∙◌}
use Rattle.std.specs.FinMap as fin
use Rattle.script_world.proofs.Sites.{get-sites_of, lent_ops}
use Rattle.script_world.proofs.Kept.{lawful_sites}
use Rattle.script_world.proofs.Stays.{stands_lent}
use Rattle.script_world.proofs.world.World.replica.Goals as goal

pub returns-clause-ops : goal.returns-clause-ops
returns-clause-ops g c = lent_ops _ c.get.result c.get.ensures.value ∙ sym (get-sites_of c.self.inside.sites.entries c.args.site) ∙ ap (λ s. fin.get s c.args.site) c.self.view_is

pub returns-clause-honest : goal.returns-clause-honest
returns-clause-honest g c =
    stands_lent c.args.self.now c.args.site c.get.result (lawful_sites c.self.inside.sites.entries c.args.self.now c.self.invariant c.self.view_is)
    (lent_ops _ c.get.result c.get.ensures.value ∙ sym (get-sites_of c.self.inside.sites.entries c.args.site) ∙ ap (λ s. fin.get s c.args.site) c.self.view_is)
