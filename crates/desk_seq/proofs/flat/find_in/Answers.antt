use Rattle.std.proofs.Common.{◌≡◌, ◌∙◌, sym, ap, get_or, false, arith, ℕ}
use Rattle.desk_ops.specs.Stamp.{same, head}
use Rattle.desk_seq.specs.Entries.{stamps_of}
use Rattle.desk_seq.proofs.Entries.{found-at, absent-from, none_more, stamps-at}
use Rattle.desk_seq.proofs.flat.find_in.Goals as goal

pub returns-then-is_same-clause-found : goal.returns-then-is_same-clause-found
returns-then-is_same-clause-found c = found-at c.args.items.now c.args.stamp c.loop-at.at _ c.loop-at-test.true (sym c.is_same.ensures ∙ c.if-is_same.true) c.loop-at.invariant.1

pub loop-at-preserved : goal.loop-at-preserved
loop-at-preserved c = (omega arith, none_more (λ (k : ℕ). same (get_or (stamps_of c.args.items.now) k head) c.args.stamp ≡ false) c.loop-at.at c.loop-at.invariant.1 (ap (λ s. same s c.args.stamp) (stamps-at c.args.items.now c.loop-at.at _ c.loop-at-test.true) ∙ sym c.is_same.ensures ∙ c.if-is_same.false))

pub returns-clause-none : goal.returns-clause-none
returns-clause-none c = λ _. absent-from c.args.stamp c.args.items.now (λ k l. c.loop-at.invariant.1 k (omega arith))
