use Rattle.std.proofs.Common.{get_or}
use Rattle.feed_sites.proofs.Skipping.{next_rises, past_end, stamps_next}
use Rattle.feed_sites.proofs.alone.stamps_alone.Goals as goal

pub loop-op-preserved : goal.loop-op-preserved
loop-op-preserved g c = record {
  others = next_rises (get_or c.args.one.now c.loop-op.op-index past_end) c.loop-op.others.now c.skip-others.result.now c.skip-others.ensures c.loop-op.invariant.others;
  same = stamps_next c.args.one.now c.loop-op.others.now c.skip-others.result.now c.loop-op.op-index past_end c.begins.result c.loop-op.stamps.items c.put_alone.new.stamps.items _ c.requires.one c.loop-op.invariant.others c.loop-op-test.true
      c.skip-others.ensures c.begins.ensures c.in_ok-put_alone.ensures c.loop-op.invariant.same;
}
