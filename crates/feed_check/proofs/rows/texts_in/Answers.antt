use Rattle.std.proofs.Common.{◌≡◌, ◌∙◌, Some, ap, arith, length}
use Rattle.std.proofs.lemmas.Bool.Decides.{nat_tests}
use Rattle.toml.specs.View.{items_view}
use Rattle.feed_check.proofs.Counts.{all_texts, text_more}
use Rattle.feed_check.proofs.rows.texts_in.Goals as goal

pub loop-item-preserved : goal.loop-item-preserved
loop-item-preserved c = text_more c.deref-item-items.result.now c.loop-item.item-index c.item-item.result c.in-Some._text.now c.loop-item-test.true c.item-item.is c.in-Some.ensures c.loop-item.invariant

pub returns : goal.returns
returns c =
    let array = ap (λ xs. Some (items_view xs)) c.deref-item-items.ensures.value ∙ c.in_ok-items.ensures in
    let long : c.len.result ≡ length c.deref-item-items.result.now = grind (arith, nat_tests) in
    ap Some long ∙ all_texts c.deref-item-items.result.now c.loop-item.item-index _ array c.loop-item-test.false c.loop-item.invariant
