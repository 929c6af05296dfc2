use Rattle.std.proofs.Common.{◌∙◌, sym}
use Rattle.desk_blocks.proofs.Tallies.{none-smaller}
use Rattle.desk_blocks.proofs.tally.BelowPickSlotTally.count.Goals as goal

pub returns-else-is_before : goal.returns-else-is_before
returns-else-is_before c = λ xs h _. none-smaller c.args.summary c.args.self.now.stamp xs h (sym c.is_before.ensures ∙ c.if-is_before.false)
