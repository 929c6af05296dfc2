use Rattle.std.proofs.Common.{◌∙◌, sym, refl, subst, List}
use Rattle.desk_seq.specs.declared.Entry.{Entry}
use Rattle.desk_seq.specs.Entries.{IsAbsent}
use Rattle.desk_ops.proofs.Stamps.{same-true}
use Rattle.desk_walk.proofs.Lists.{no-place}
use Rattle.desk_walk.proofs.place_of.Goals as goal

pub returns-in_default-clause-none : goal.returns-in_default-clause-none
returns-in_default-clause-none g c = λ _. no-place (g.Q.Sequence.entries c.args.sequence.now) c.args.stamp (sym c.if-is_head.ensures) (subst (λ (es : List Entry). IsAbsent c.args.stamp es) c.prepare_find.ensures.same (c.in_default.ensures.none refl))

pub returns-then-is_same-clause-is : goal.returns-then-is_same-clause-is
returns-then-is_same-clause-is g c = sym c.stamp_at.ensures.stamp ∙ same-true c.stamp_at.result c.args.stamp (sym c.is_same.ensures ∙ c.if-is_same.true)
