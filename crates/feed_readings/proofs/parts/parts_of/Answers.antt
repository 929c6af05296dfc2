use Rattle.std.proofs.Common.{◌∙◌, refl, sym, ap, subst, List}
use Rattle.desk_ops.specs.declared.op.Op.{Op}
use Rattle.desk_ops.specs.OpSet.{no_ops, with_all}
use Rattle.feed_readings.specs.Parts.{AreTargets}
use Rattle.feed_readings.proofs.Differing.{parts_are}
use Rattle.feed_readings.proofs.parts.parts_of.Goals as goal

pub returns : goal.returns
returns g c =
    let news = c.args.news.now in
    parts_are c.args.ones.now c.args.others.now news c.args.olds _ c.requires.news c.requires.olds (c.of-news.ensures ∙ c.in-Some.ensures.ops) (c.of-olds.ensures ∙ c.in-Some-of_rising.ensures.ops ∙ ap (with_all no_ops) c.deref.ensures.value)
    (sym c.one_hangs_on.ensures ∙ c.if-one_hangs_on.false) (sym c.one_hangs_on-else-one_hangs_on.ensures ∙ c.if-one_hangs_on-2.false) c.in_ok-by_news.ensures
    (subst (λ (l : List Op). AreTargets l c.in_ok-by_olds.by_olds) c.deref-2.ensures.value c.in_ok-by_olds.ensures) refl
