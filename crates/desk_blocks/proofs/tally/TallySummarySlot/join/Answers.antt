use Rattle.std.proofs.Common.{◌∙◌, sym, arith}
use Rattle.desk_blocks.proofs.Tallies.{tally-join, tally-short, lower, higher}
use Rattle.desk_blocks.proofs.tally.TallySummarySlot.join.Goals as goal

pub returns-then-is_before : goal.returns-then-is_before
returns-then-is_before c = λ xs ys f h k.
    let a = tally-short c.args.self xs 281474976710656 h (omega (arith, f)) in
    let b = tally-short c.args.other ys 281474976710656 k (omega (arith, f)) in
    tally-join c.args.self c.args.other (record { shown = c.saturating_add-shown.result; least = c.args.other.least }) xs ys h k (omega (arith, c.saturating_add-shown.ensures)) (λ s q. lower s c.args.self.least c.args.other.least q (sym c.is_before.ensures ∙ c.if-is_before.true)) (λ s q. q)

pub returns : goal.returns
returns c = λ xs ys f h k.
    let a = tally-short c.args.self xs 281474976710656 h (omega (arith, f)) in
    let b = tally-short c.args.other ys 281474976710656 k (omega (arith, f)) in
    tally-join c.args.self c.args.other (record { shown = c.saturating_add-shown.result; least = c.args.self.least }) xs ys h k (omega (arith, c.saturating_add-shown.ensures)) (λ s q. q) (λ s q. higher s c.args.other.least c.args.self.least q (sym c.is_before.ensures ∙ c.if-is_before.false))
