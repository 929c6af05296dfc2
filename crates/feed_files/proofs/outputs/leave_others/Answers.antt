use Rattle.std.proofs.Common.{◌≡◌, ◌∙◌, ap, inr, rules, subst}
use Rattle.std.specs.Prelude.{Option, Some}
use Rattle.feed_files.specs.Files.{Shelf}
use Rattle.feed_files.specs.Kinds.{Stands}
use Rattle.feed_files.specs.declared.kinds.Kind.{Kind}
use Rattle.feed_files.proofs.outputs.leave_others.Goals as goal

pub returns-in-Some-clause-ok : goal.returns-in-Some-clause-ok
returns-in-Some-clause-ok g c =
    let first : Shelf = g.F.Files.shelf c.args.files.now in
    let same : c.in-Some.other ≡ c.args.kind = search rules in
    let found : c.in_ok-standing.field-0 ≡ Some c.args.kind = c.in-Some.is ∙ ap Some same in
    inr (subst (λ (kind : Option Kind). Stands (first.kept c.args.name.now) kind) found c.in_ok-standing.ensures.ok)
