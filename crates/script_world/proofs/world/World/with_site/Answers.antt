use Rattle.std.proofs.Common.{◌≡◌, ◌+◌, ap, ◌∙◌, sym, subst, length, cond, nat_eq}
use Rattle.std.specs.Prelude.{None, is_some}
use Rattle.std.specs.FinMap as fin
use Rattle.std.specs.Map.{lookup}
use Rattle.script_world.specs.Sites.{IsKept, no_sites, sites_of}
use Rattle.script_world.proofs.Sites.{sites_of-updated}
use Rattle.script_world.proofs.Kept.{nothing_kept, kept_added}
use Rattle.script_world.proofs.world.World.with_site.Goals as goal

pub invariant_of-result : goal.invariant_of-result
invariant_of-result g c =
    let empty = c.new-sites.ensures.empty in
    let none : lookup (nat_eq c.site.result) c.new-sites.result.entries ≡ None = ap (lookup (nat_eq c.site.result)) empty in
    kept_added c.new-sites.result.entries c.insert.new.self.entries c.site.result c.args.replica (subst IsKept (sym empty) nothing_kept) none c.in_ok-insert.ensures.updates.0 c.in_ok-insert.ensures.unique
    (c.in_ok-insert.ensures.len ∙ ap (λ o. length c.new-sites.result.entries + cond (is_some o) 0 1) (c.in_ok-insert.ensures.old ∙ none)) (sym c.site.ensures.value) c.site.ensures.lawful

pub returns : goal.returns
returns g c =
    sites_of-updated c.new-sites.result.entries c.insert.new.self.entries c.site.result c.args.replica c.in_ok-insert.ensures.updates.0
    ∙ ap (λ es. fin.insert (sites_of es) c.site.result c.args.replica.ops) c.new-sites.ensures.empty
    ∙ ap (λ n. fin.insert no_sites n c.args.replica.ops) c.site.ensures.value
