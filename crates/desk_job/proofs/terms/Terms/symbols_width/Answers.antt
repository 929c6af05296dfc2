use Rattle.std.proofs.Common.{arith}
use Rattle.desk_job.specs.Job.{symbol_width}
use Rattle.desk_job.proofs.Sums.{sum_more}
use Rattle.desk_job.proofs.terms.Terms.symbols_width.Goals as goal

pub loop-symbol-preserved : goal.loop-symbol-preserved
loop-symbol-preserved c =
    let small = c.loop-symbol.invariant.small in
    let limit = c.symbol_width-total.ensures.limit in
    record {
      sum = sum_more (symbol_width c.args.self.now) _ _ _ _ _ c.loop-symbol-test.true c.loop-symbol.invariant.sum c.symbol_width-total.ensures.value;
      small = omega (arith, small, limit);
    }
