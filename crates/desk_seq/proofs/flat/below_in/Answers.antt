use Rattle.std.proofs.Common.{◌≡◌, ◌∙◌, ◌≤◌, sym, ap, get_or, false, arith, ℕ}
use Rattle.desk_ops.specs.Stamp.{before, head}
use Rattle.desk_seq.specs.Entries.{stamps_of}
use Rattle.desk_seq.proofs.Entries.{none_more, stamps-at}
use Rattle.desk_seq.proofs.flat.below_in.Goals as goal

pub loop-at-preserved : goal.loop-at-preserved
loop-at-preserved c = (omega arith, omega arith, λ k f l. none_more (λ (j : ℕ). c.args.from ≤ j → before (get_or (stamps_of c.args.items.now) j head) c.args.stamp ≡ false) c.loop-at.at (λ j h q. c.loop-at.invariant.2 j q h) (λ _. ap (λ s. before s c.args.stamp) (stamps-at c.args.items.now c.loop-at.at _ c.loop-at-test.true) ∙ sym c.is_before.ensures ∙ c.if-not-is_before.true) k l f)
