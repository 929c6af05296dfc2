use Rattle.std.proofs.Common.{◌∙◌, ◌+◌, ap₂, arith, sym}
use Rattle.toml.specs.View.{view}
use Rattle.feed_check.proofs.Places.{texts_more}
use Rattle.feed_check.proofs.texts.texts.Goals as goal

pub loop-place-preserved : goal.loop-place-preserved
loop-place-preserved c = record {
  counted = ap₂ (λ k n. k + n) c.loop-place.invariant.counted c.one_text-count.ensures.value ∙ sym (texts_more (view c.args.rows.now) c.loop-place.place);
  small = omega (arith, c.loop-place.invariant.small, c.one_text-count.ensures.small);
}
