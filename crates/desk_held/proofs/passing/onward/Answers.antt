use Rattle.std.proofs.Common.{◌≡◌, ◌≤◌, ◌+◌, length, subst, arith}
use Rattle.desk_held.specs.Passing.{IsPassed}
use Rattle.desk_held.proofs.Stretches.{skipped, part-to, next-part, found-edge}
use Rattle.desk_held.proofs.passing.onward.Goals as goal
use Rattle.desk_held.proofs.passing.onward.Goals.{then-loop-at-test+else-start-at, else-loop-at-test}

pub loop-at-init : goal.loop-at-init
loop-at-init g c = record {
  part = part-to c.args.ops.now.entries c.args.part.now c.args.start c.args.from c.skip-at.result c.requires.part c.skip-at.ensures.within;
  passed = skipped c.args.ops.now.entries c.args.part.now c.args.start c.args.from c.skip-at.result c.args.op.now c.requires.part.is c.skip-at.ensures.order c.skip-at.ensures.within c.skip-at.ensures.passed c.requires.passed;
  stops = c.skip-at.ensures.stops;
}

pub overflow_add-start : goal.overflow_add-start
overflow_add-start g c =
    let p = c.loop-at.invariant.part in
    let f : c.loop-at.start + length c.loop-at.part.now ≤ length c.args.ops.now.entries = p.fits in
    let w : c.loop-at.at ≤ length c.loop-at.part.now = p.place in
    omega (arith, f, w, c.len-len.ensures, c.len-len.type_inv)

pub loop-at-preserved : goal.loop-at-preserved
loop-at-preserved g c =
    let ops = c.args.ops.now.entries in
    let part = c.stretch-part.result.now in
    let next = c.loop-at.start + c.loop-at.at in
    let at = c.skip-at-in-loop-at.result in
    let le : next ≤ length ops = omega (arith, c.if-start-at.true, c.len-len.ensures) in
    record {
      part = next-part ops part next at c.stretch-part.ensures.is le c.skip-at-in-loop-at.ensures.within;
      passed = skipped ops part next 0 at c.args.op.now c.stretch-part.ensures.is c.skip-at-in-loop-at.ensures.order c.skip-at-in-loop-at.ensures.within c.skip-at-in-loop-at.ensures.passed
          (let e : next ≡ next + 0 = omega arith in subst (λ n. IsPassed ops n c.args.op.now) e c.loop-at.invariant.passed);
      stops = c.skip-at-in-loop-at.ensures.stops;
    }

pub returns-clause-edge : goal.returns-clause-edge
returns-clause-edge g c =
    let ops = c.args.ops.now.entries in
    let part = c.loop-at.part.now in
    let start = c.loop-at.start in
    let at = c.loop-at.at in
    let f : start + length part ≤ length ops = c.loop-at.invariant.part.fits in
    let p : at ≤ length part = c.loop-at.invariant.part.place in
    found-edge ops part start at c.args.op.now c.loop-at.invariant.part c.loop-at.invariant.passed c.loop-at.invariant.stops
    (λ le. elim c.loop-at-test.branch [
      | then-loop-at-test+else-start-at w ↦ omega (arith, le, f, p, w.loop-at-test.true, w.if-start-at.false, c.len-len.ensures)
      | else-loop-at-test w ↦ absurd (omega (arith, le, p, w.loop-at-test.false))
    ])
