use Rattle.std.proofs.Common.{◌∙◌, sym, refl, arith}
use Rattle.desk_blocks.proofs.Tallies.{tally-replace}
use Rattle.desk_blocks.proofs.tally.TallySummarySlot.replaced.Goals as goal

pub returns-then-is_deleted : goal.returns-then-is_deleted
returns-then-is_deleted c = λ xs i f w is h. tally-replace c.with-tally.result c.with-tally.result xs i c.args.new c.args.old w is (c.with-tally.ensures xs i f (omega arith) h) refl (rw (sym c.is_deleted.ensures ∙ c.if-is_deleted.true) (omega arith))

pub returns : goal.returns
returns c = λ xs i f w is h. tally-replace c.with-tally.result (record { shown = c.saturating_sub.result; least = c.with-tally.result.least }) xs i c.args.new c.args.old w is (c.with-tally.ensures xs i f (omega arith) h) refl (rw (sym c.is_deleted.ensures ∙ c.if-is_deleted.false) (omega (arith, c.saturating_sub.ensures)))
