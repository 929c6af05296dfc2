use Rattle.std.proofs.Common.{◌≡◌, ◌+◌, ◌∙◌, cond, ap, sym, arith}
use Rattle.desk_seq.specs.Entries.{is_shown}
use Rattle.desk_ops.specs.Stamp.{before}
use Rattle.desk_blocks.proofs.Tallies.{tally-with, tally-short, lower, not-before-itself}
use Rattle.desk_blocks.proofs.tally.TallySummarySlot.with.Goals as goal
use Rattle.desk_blocks.proofs.tally.TallySummarySlot.with.Goals.{then-is_deleted, else-is_deleted}

pub returns-then-is_before : goal.returns-then-is_before
returns-then-is_before c = λ xs i l w h.
    let short = tally-short c.args.self xs 281474976710656 h l in
    let shown : c.if-is_deleted.result ≡ c.args.self.shown + cond (is_shown c.args.x) 1 0 = elim c.if-is_deleted.branch [
      | then-is_deleted w ↦ rw (sym c.is_deleted.ensures ∙ w.if-is_deleted.true) (omega (arith, w.result-is))
      | else-is_deleted w ↦ rw (sym c.is_deleted.ensures ∙ w.if-is_deleted.false) (omega (arith, w.result-is, w.saturating_add.ensures))
    ] in
    rw c.stamp-stamp.ensures (tally-with c.args.self (record { shown = c.if-is_deleted.result; least = c.args.x.stamp }) xs i c.args.x h shown (not-before-itself c.args.x.stamp) (λ s q. lower s c.args.self.least c.args.x.stamp q (ap (λ t. before t c.args.self.least) (sym c.stamp-stamp.ensures) ∙ sym c.is_before.ensures ∙ c.if-is_before.true)))
