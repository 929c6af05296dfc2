use Rattle.feed_check.proofs.Counts.{AreTextsTo}
use Rattle.feed_check.proofs.rows.texts_in.Given as goal

abbrev pub invariant-loop-item : goal.invariant-loop-item
invariant-loop-item l = AreTextsTo l.item-items l.item-index
