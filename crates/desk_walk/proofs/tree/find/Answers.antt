use Rattle.std.proofs.Common.{◌≡◌, ◌<◌, ◌≤◌, ◌∙◌, ap, sym, arith, length, false}
use Rattle.desk_ops.specs.declared.op.Stamp.{Stamp}
use Rattle.desk_ops.specs.Stamp.{same, before}
use Rattle.desk_ops.specs.Op.{stamp_of}
use Rattle.desk_ops.specs.OpSet.{in_order}
use Rattle.desk_ops.proofs.Stamps.{same-true}
use Rattle.desk_walk.specs.Tree.{op_at}
use Rattle.desk_walk.proofs.Beside.{stamp-read, still-below, still-above, not-found}
use Rattle.desk_walk.proofs.tree.find.Goals as goal

pub returns-then-is_same-clause-found : goal.returns-then-is_same-clause-found
returns-then-is_same-clause-found g c =
    let h = c.args.held.now.ops in
    let lt : c.probe-place.result < c.args.end = omega (arith, c.probe-place.ensures.high, c.loop-low.invariant.within) in (
      lt,
      sym (stamp-read h c.args.ops.now c.probe-place.result _ c.requires.listed (omega (arith, lt, c.requires.within))) ∙ sym c.stamp-here.ensures
          ∙ same-true c.stamp-here.result c.args.stamp (sym c.is_same.ensures ∙ c.if-is_same.true),
    )

pub loop-low-preserved-then-is_before : goal.loop-low-preserved-then-is_before
loop-low-preserved-then-is_before g c =
    let h = c.args.held.now.ops in
    let low : c.loop-low.low ≤ c.probe-place.result = c.probe-place.ensures.low in
    let high : c.probe-place.result < c.loop-low.high = c.probe-place.ensures.high in
    let within : c.loop-low.high ≤ c.args.end = c.loop-low.invariant.within in
    let end : c.args.end < length (in_order h) = c.requires.within in
    let here : c.stamp-here.result ≡ stamp_of (op_at (in_order h) c.probe-place.result) =
    c.stamp-here.ensures ∙ stamp-read h c.args.ops.now c.probe-place.result _ c.requires.listed (omega arith) in
    record {
      order = omega arith;
      within = omega arith;
      below = λ k l. still-below h c.probe-place.result (omega arith) c.args.stamp (ap (λ (t : Stamp). before t c.args.stamp) (sym here) ∙ sym c.is_before.ensures ∙ c.if-is_before.true) k l;
      above = λ k l m. c.loop-low.invariant.above k l m;
    }

pub loop-low-preserved : goal.loop-low-preserved
loop-low-preserved g c =
    let h = c.args.held.now.ops in
    let low : c.loop-low.low ≤ c.probe-place.result = c.probe-place.ensures.low in
    let high : c.probe-place.result < c.loop-low.high = c.probe-place.ensures.high in
    let within : c.loop-low.high ≤ c.args.end = c.loop-low.invariant.within in
    let end : c.args.end < length (in_order h) = c.requires.within in
    let here : c.stamp-here.result ≡ stamp_of (op_at (in_order h) c.probe-place.result) =
    c.stamp-here.ensures ∙ stamp-read h c.args.ops.now c.probe-place.result _ c.requires.listed (omega arith) in
    let other : same (stamp_of (op_at (in_order h) c.probe-place.result)) c.args.stamp ≡ false = ap (λ (t : Stamp). same t c.args.stamp) (sym here) ∙ sym c.is_same.ensures ∙ c.if-is_same.false in
    record {
      order = omega arith;
      within = omega arith;
      below = λ k l. c.loop-low.invariant.below k l;
      above = λ k l m. still-above h c.probe-place.result c.args.stamp (ap (λ (t : Stamp). before t c.args.stamp) (sym here) ∙ sym c.is_before.ensures ∙ c.if-is_before.false) other k l (omega arith);
    }

pub returns-clause-none : goal.returns-clause-none
returns-clause-none g c = λ _.
    not-found c.args.held.now.ops c.args.stamp c.loop-low.low c.loop-low.high c.args.end (omega (arith, c.loop-low-test.false)) c.loop-low.invariant.below c.loop-low.invariant.above
