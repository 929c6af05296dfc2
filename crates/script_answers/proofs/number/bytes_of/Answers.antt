use Rattle.std.proofs.Common.{arith}
use Rattle.script_answers.proofs.Loops.{pairs_turn, pairs_within}
use Rattle.script_answers.proofs.number.bytes_of.Goals as goal

pub returns-in_err-push-clause-memory : goal.returns-in_err-push-clause-memory
returns-in_err-push-clause-memory g c refused = omega arith

pub pairs-preserved : goal.pairs-preserved
pairs-preserved g c = record {
  read = pairs_turn c.pairs.out.items c.push.new.self.items c.pairs.left.now c.in_ok-high.high c.in_ok-low.low _ c.in-len2-up.len_at_least c.in_ok-high.ensures.value
      c.in_ok-low.ensures.value c.in_ok-push.ensures.items c.pairs.invariant.read;
  within = pairs_within c.pairs.left.now c.args.word.now c.pairs.invariant.within;
}
