use Rattle.std.proofs.Common.{◌∙◌, sym, arith}
use Rattle.desk_ops.proofs.Stamps.{is_less}
use Rattle.desk_held.proofs.Pairs.{rising-from, pairs-more}
use Rattle.desk_held.proofs.search.is_rising.Goals as goal

pub loop-i-preserved : goal.loop-i-preserved
loop-i-preserved c = (omega arith, pairs-more c.args.ops.now c.loop-i.i _ c.loop-i.invariant.0 c.loop-i-test.true c.loop-i.invariant.1 (is_less _ (sym c.is_earlier.ensures ∙ c.if-not-is_earlier.false)))

pub returns : goal.returns
returns c = λ _. rising-from c.args.ops.now (λ k d l. c.loop-i.invariant.1 k d (omega arith) l)
