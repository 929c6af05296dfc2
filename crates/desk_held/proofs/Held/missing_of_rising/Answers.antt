use Rattle.std.proofs.Common.{◌+◌}
use Rattle.std.proofs.lemmas.List.{get_or_default}
use Rattle.desk_ops.specs.OpSet.{from_rising}
use Rattle.desk_held.proofs.Lacking.{missing-more}
use Rattle.desk_held.proofs.Stretches.{passed-next}
use Rattle.desk_held.proofs.Held.missing_of_rising.Goals as goal

pub loop-op-preserved : goal.loop-op-preserved
loop-op-preserved g c =
    let ops = c.args.ops.now in
    let i = c.loop-op.op-index in
    let held = c.self.inside.ops.entries in
    record {
      part = c.look-begin.ensures.part;
      passed = λ next lt at. passed-next held ops (c.look-begin.result.0 + c.look-begin.result.2) i _ next c.requires lt (get_or_default ops i _ _ c.loop-op-test.true) at c.look-begin.ensures.passed;
      lacking = missing-more (from_rising held) ops i _ c.loop-op-test.true (get_or_default ops i _ _ c.loop-op-test.true) c.look-begin.result.3 c.loop-op.list.items _ c.look-begin.ensures.held c.loop-op.invariant.lacking c.in_ok-add_missing.ensures;
    }
