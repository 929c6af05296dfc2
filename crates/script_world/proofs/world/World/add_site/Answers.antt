use Rattle.std.proofs.Common.{◌≡◌, false, true, ap, ◌∙◌, refl, rules, sym, subst, length, ◌+◌, cond, nat_eq}
use Rattle.std.specs.Prelude.{is_some, None, Ok, Err, nat_le}
use Rattle.std.specs.FinMap as fin
use Rattle.std.specs.Map.{lookup}
use Rattle.std.proofs.lemmas.Bool.{ne_eqb}
use Rattle.std.proofs.lemmas.Result.{err_from_is_err_and}
use Rattle.desk_ops.specs.OpSet.{no_ops, AllLawful}
use Rattle.desk_ops.proofs.Lists.{none_of}
use Rattle.desk_ops.proofs.OpSets.{none-lawful}
use Rattle.script_world.specs.Sites.{IsKept, sites_of}
use Rattle.script_world.specs.World.{site_refusal}
use Rattle.script_world.specs.declared.world.Answer.TheVariants as answers
use Rattle.script_world.specs.declared.world.StepRefusal.TheVariants as refusals
use Rattle.script_world.proofs.Sites.{is_there, sites_of-updated}
use Rattle.script_world.proofs.Kept.{refused, known_refused, many_refused, not_refused, added, is_many, is_few, kept_added}
use Rattle.script_world.proofs.world.World.add_site.Goals as goal

pub returns-then-contains_key : goal.returns-then-contains_key
returns-then-contains_key g c =
    let there : fin.contains_key c.args.self.now c.args.site ≡ true = is_there c.self.inside.sites.entries c.args.site c.args.self.now true c.self.view_is (search rules) in
    refused c.args.self.now c.args.site _ (known_refused c.args.self.now c.args.site (ne_eqb c.args.site 0 c.if-site-eq0.false) there)

pub returns-then-len-ge-MAX_SITES : goal.returns-then-len-ge-MAX_SITES
returns-then-len-ge-MAX_SITES g c =
    let there : fin.contains_key c.args.self.now c.args.site ≡ false = is_there c.self.inside.sites.entries c.args.site c.args.self.now false c.self.view_is (search rules) in
    let many : nat_le 16 (fin.len c.args.self.now) ≡ true = is_many c.self.inside.sites.entries c.args.self.now c.len.result c.self.invariant c.self.view_is c.len.ensures.len c.if-len-ge-MAX_SITES.true in
    refused c.args.self.now c.args.site _ (many_refused c.args.self.now c.args.site (ne_eqb c.args.site 0 c.if-site-eq0.false) there many)

pub invariant_of-self : goal.invariant_of-self
invariant_of-self g c = subst IsKept (sym c.in_err-insert.ensures.err) c.self.invariant

pub invariant_of-self-2 : goal.invariant_of-self-2
invariant_of-self-2 g c =
    let none : lookup (nat_eq c.args.site) c.self.inside.sites.entries ≡ None = none_of _ (search rules) in
    kept_added c.self.inside.sites.entries c.insert.new.self.entries c.args.site c.new.result c.self.invariant none c.in_ok-insert.ensures.updates.0 c.in_ok-insert.ensures.unique
    (c.in_ok-insert.ensures.len ∙ ap (λ o. length c.self.inside.sites.entries + cond (is_some o) 0 1) (c.in_ok-insert.ensures.old ∙ none)) c.new.ensures.site (subst AllLawful (sym c.new.ensures.ops) none-lawful)

pub returns : goal.returns
returns g c =
    let there : fin.contains_key c.args.self.now c.args.site ≡ false = is_there c.self.inside.sites.entries c.args.site c.args.self.now false c.self.view_is (search rules) in
    let few : nat_le 16 (fin.len c.args.self.now) ≡ false = is_few c.self.inside.sites.entries c.args.self.now c.len.result c.self.invariant c.self.view_is c.len.ensures.len c.if-len-ge-MAX_SITES.false in
    let free : site_refusal c.args.self.now c.args.site ≡ None = not_refused c.args.self.now c.args.site (ne_eqb c.args.site 0 c.if-site-eq0.false) there few in
    added c.args.self.now (sites_of c.insert.new.self.entries) c.args.site (Ok answers.Done) free (
      refl,
      sites_of-updated c.self.inside.sites.entries c.insert.new.self.entries c.args.site c.new.result c.in_ok-insert.ensures.updates.0
          ∙ ap (λ ops. fin.insert (sites_of c.self.inside.sites.entries) c.args.site ops) c.new.ensures.ops ∙ ap (λ s. fin.insert s c.args.site no_ops) c.self.view_is,
    )

pub returns-in_err-insert : goal.returns-in_err-insert
returns-in_err-insert g c =
    let there : fin.contains_key c.args.self.now c.args.site ≡ false = is_there c.self.inside.sites.entries c.args.site c.args.self.now false c.self.view_is (search rules) in
    let few : nat_le 16 (fin.len c.args.self.now) ≡ false = is_few c.self.inside.sites.entries c.args.self.now c.len.result c.self.invariant c.self.view_is c.len.ensures.len c.if-len-ge-MAX_SITES.false in
    let free : site_refusal c.args.self.now c.args.site ≡ None = not_refused c.args.self.now c.args.site (ne_eqb c.args.site 0 c.if-site-eq0.false) there few in
    let p = err_from_is_err_and c.from_residual.result c.from_residual.ensures.1 in
    rw p.1 (rw p.2 (added c.args.self.now (sites_of c.insert.new.self.entries) c.args.site (Err refusals.NoMemory) free (refl, ap sites_of c.in_err-insert.ensures.err ∙ c.self.view_is)))
