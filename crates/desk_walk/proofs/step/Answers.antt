use Rattle.std.proofs.Common.{◌≡◌, ◌+◌, ◌≤◌, sym, refl, subst, arith, length, true, false}
use Rattle.desk_ops.specs.declared.op.Stamp.{Stamp}
use Rattle.desk_ops.specs.declared.op.Op.{Op}
use Rattle.desk_ops.specs.OpSet.{OpSet, has_op, size}
use Rattle.desk_walk.specs.Waiting.{IsReleased, waits_for}
use Rattle.desk_walk.specs.Following.{IsDraining, IsSettled}
use Rattle.desk_walk.proofs.Drains.{acts, able, goes_on, ends, size-less}
use Rattle.desk_walk.proofs.step.Goals as goal

pub act-reach-requires-clause-able : goal.act-reach-requires-clause-able
act-reach-requires-clause-able g c =
    let es = g.Q.Sequence.entries c.args.sequence.now in
    let d = c.requires.follows in
    let within : c.args.at ≤ length es = omega arith in
    able d.0 d.1 c.args.room.now.ops c.release.new.self.ops es c.args.at c.args.last d.2 within c.stamp_at-stamp.ensures.distinct c.in-Some.op (g.Q.Sequence.free c.args.sequence.now)
    (subst (λ (s : Stamp). IsReleased c.args.room.now.ops c.release.new.self.ops s c.in-Some.op) c.stamp_at-stamp.ensures.stamp c.in-Some.ensures.some) c.requires.free

pub returns-in-Some-clause-on : goal.returns-in-Some-clause-on
returns-in-Some-clause-on g c = λ h l d.
    let es = g.Q.Sequence.entries c.args.sequence.now in
    let within : c.args.at ≤ length es = omega arith in
    acts h l c.args.room.now.ops c.release.new.self.ops es c.args.at c.args.last d within c.stamp_at-stamp.ensures.distinct c.in-Some.op
    (subst (λ (s : Stamp). IsReleased c.args.room.now.ops c.release.new.self.ops s c.in-Some.op) c.stamp_at-stamp.ensures.stamp c.in-Some.ensures.some)
    (g.Q.Sequence.entries c.act-reach.new.sequence) c.act-reach.result c.act-reach.ensures.acted

pub returns-in-Some-clause-smaller : goal.returns-in-Some-clause-smaller
returns-in-Some-clause-smaller g c =
    let n : size c.args.room.now.ops ≡ size c.release.new.self.ops + 1 = size-less c.args.room.now.ops c.release.new.self.ops c.stamp_at-stamp.result c.in-Some.op c.in-Some.ensures.some in
    let m : length (g.Q.Sequence.entries c.act-reach.new.sequence) ≤ length (g.Q.Sequence.entries c.args.sequence.now) + 1 = c.act-reach.ensures.more in
    omega (arith, n, m)

pub returns-in-Some-clause-fewer : goal.returns-in-Some-clause-fewer
returns-in-Some-clause-fewer g c =
    let n : size c.args.room.now.ops ≡ size c.release.new.self.ops + 1 = size-less c.args.room.now.ops c.release.new.self.ops c.stamp_at-stamp.result c.in-Some.op c.in-Some.ensures.some in
    omega (arith, n)

pub returns-in-Some-clause-free : goal.returns-in-Some-clause-free
returns-in-Some-clause-free g c =
    let n : size c.args.room.now.ops ≡ size c.release.new.self.ops + 1 = size-less c.args.room.now.ops c.release.new.self.ops c.stamp_at-stamp.result c.in-Some.op c.in-Some.ensures.some in
    let m : g.Q.Sequence.free c.args.sequence.now ≤ g.Q.Sequence.free c.act-reach.new.sequence + 1 = c.act-reach.ensures.free in
    omega (arith, n, m)

pub returns-then-at-last-clause-on : goal.returns-then-at-last-clause-on
returns-then-at-last-clause-on g c = λ h l d.
    let es = g.Q.Sequence.entries c.args.sequence.now in
    let within : c.args.at ≤ length es = omega arith in
    subst (λ (w : OpSet). IsDraining h (has_op w) es (c.args.at + 1) c.args.last) (sym ((c.in_default.ensures.none refl).1))
    (goes_on h l c.args.room.now.ops c.args.room.now.ops es c.args.at c.args.last d within c.stamp_at-stamp.ensures.distinct
    (subst (λ (s : Stamp). (q : Op) → has_op c.args.room.now.ops q ≡ true → waits_for s q ≡ false) c.stamp_at-stamp.ensures.stamp (c.in_default.ensures.stays refl)))

pub returns-clause-end : goal.returns-clause-end
returns-clause-end g c = λ _ h l d.
    let es = g.Q.Sequence.entries c.args.sequence.now in
    let within : c.args.at ≤ length es = omega arith in
    let last : c.args.last ≤ c.args.at = omega arith in
    subst (IsSettled h es) (sym ((c.in_default.ensures.none refl).1))
    (ends h l c.args.room.now.ops c.args.room.now.ops es c.args.at c.args.last d within c.stamp_at-stamp.ensures.distinct last
    (subst (λ (s : Stamp). (q : Op) → has_op c.args.room.now.ops q ≡ true → waits_for s q ≡ false) c.stamp_at-stamp.ensures.stamp (c.in_default.ensures.stays refl)))
