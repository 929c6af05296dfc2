use Rattle.std.proofs.Common.{arith, take}
use Rattle.feed_readings.proofs.Passed.{next_both, next_one, next_other}
use Rattle.feed_readings.proofs.sides.passed.Goals as goal

pub loop-at-preserved-then-is_before : goal.loop-at-preserved-then-is_before
loop-at-preserved-then-is_before g c =
    let p = c.put_old.new.self in
    record {
      within = omega (arith, c.loop-at-test.true);
      inside = c.loop-at.invariant.inside;
      passed = next_one c.args.ones.now (take c.loop-at.place c.args.ops.now) c.loop-at.at _ p.last p.olds.items p.news.items p.shared c.loop-at-test.true (c.in_ok-put_old.ensures _ _ c.loop-at.invariant.passed c.if-not-branch.false);
    }

pub loop-at-preserved-then-is_before-2 : goal.loop-at-preserved-then-is_before-2
loop-at-preserved-then-is_before-2 g c =
    let p = c.put_new.new.self in
    record {
      within = c.loop-at.invariant.within;
      inside = omega (arith, c.if-place-ops.true);
      passed = next_other (take c.loop-at.at c.args.ones.now) c.args.ops.now c.loop-at.place _ p.last p.olds.items p.news.items p.shared c.if-place-ops.true (c.in_ok-put_new.ensures _ _ c.loop-at.invariant.passed c.if-not-branch-2.false);
    }

pub loop-at-preserved : goal.loop-at-preserved
loop-at-preserved g c =
    let p = c.put_both.new.self in
    record {
      within = omega (arith, c.loop-at-test.true);
      inside = omega (arith, c.if-place-ops.true);
      passed = next_both c.args.ones.now c.args.ops.now c.loop-at.at c.loop-at.place _ _ p.last p.olds.items p.news.items p.shared c.loop-at-test.true c.if-place-ops.true (c.in_ok-put_both.ensures _ _ c.loop-at.invariant.passed c.if-not-branch-3.false);
    }

pub loop-at-2-preserved : goal.loop-at-2-preserved
loop-at-2-preserved g c =
    let p = c.put_old-in-loop-at-2.new.self in
    record {
      within = omega (arith, c.loop-at-2-test.true);
      inside = c.loop-at-2.invariant.inside;
      passed = next_one c.args.ones.now (take c.loop-at.place c.args.ops.now) c.loop-at-2.at _ p.last p.olds.items p.news.items p.shared c.loop-at-2-test.true (c.in_ok-put_old-2.ensures _ _ c.loop-at-2.invariant.passed c.if-not-branch-4.false);
    }

pub loop-place-preserved : goal.loop-place-preserved
loop-place-preserved g c =
    let p = c.put_new-in-loop-place.new.self in
    record {
      inside = omega (arith, c.loop-place-test.true);
      passed = next_other c.args.ones.now c.args.ops.now c.loop-place.place _ p.last p.olds.items p.news.items p.shared c.loop-place-test.true (c.in_ok-put_new-2.ensures _ _ c.loop-place.invariant.passed c.if-not-branch-5.false);
    }
