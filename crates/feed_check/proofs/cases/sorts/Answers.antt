use Rattle.std.proofs.Common.{◌∙◌, ◌+◌, ap, ap₂, arith, sym}
use Rattle.std.proofs.lemmas.List.{take_all}
use Rattle.feed_check.specs.Sorts.{sorts}
use Rattle.feed_check.proofs.Sorts.{sorts_more}
use Rattle.feed_check.proofs.cases.sorts.Goals as goal

pub loop-place-preserved : goal.loop-place-preserved
loop-place-preserved c =
    let grid = (c.args.case.now).grid in
    record {
      counted = ap₂ (λ k n. k + n) c.loop-place.invariant.counted c.sort_at-count.ensures.value ∙ sym (sorts_more grid c.loop-place.place c.sort_at-count.ensures.lawful.cells c.loop-place-test.true);
      small = omega (arith, c.loop-place.invariant.small, c.sort_at-count.ensures.small);
      lawful = λ _. c.sort_at-count.ensures.lawful;
    }

pub returns : goal.returns
returns c =
    let grid = (c.args.case.now).grid in
    let lawful = c.loop-place.invariant.lawful (omega (arith, c.loop-place-test.false)) in
    c.loop-place.invariant.counted ∙ ap sorts (take_all c.loop-place.place grid (omega (arith, c.loop-place-test.false, lawful.cells)))
