use Rattle.std.proofs.Common.{◌∙◌, ◌&&◌, Bool, true, [], ◌∷◌, sym, ap}
use Rattle.desk_ops.specs.Stamp.{before}
use Rattle.desk_held.proofs.Rises.{part-rises, part-last, part-falls, alone}
use Rattle.desk_held.proofs.rising.rise.Goals as goal

pub returns-then-not-is_before-clause-none : goal.returns-then-not-is_before-clause-none
returns-then-not-is_before-clause-none c = λ _.
    let x = c.slot-item.result in
    part-falls c.args.from c.loop-slot.last c.args.part.now (x ∷ []) c.loop-slot.slot-index (alone c.args.part.now c.loop-slot.slot-index x c.loop-slot-test.true c.slot-item.is) c.loop-slot.invariant.is
    (ap (λ (b : Bool). b && true) (ap (before c.loop-slot.last) (sym c.stamp-stamp.ensures) ∙ sym c.is_before.ensures ∙ c.if-not-is_before.true))

pub loop-slot-preserved : goal.loop-slot-preserved
loop-slot-preserved c =
    let x = c.slot-item.result in
    let there = alone c.args.part.now c.loop-slot.slot-index x c.loop-slot-test.true c.slot-item.is in
    record {
      up = part-rises c.args.from c.loop-slot.last c.args.part.now (x ∷ []) c.loop-slot.slot-index there c.loop-slot.invariant.is c.loop-slot.invariant.up
          (ap (λ (b : Bool). b && true) (ap (before c.loop-slot.last) (sym c.stamp-stamp.ensures) ∙ sym c.is_before.ensures ∙ c.if-not-is_before.false));
      is = c.stamp-stamp.ensures ∙ part-last c.args.from c.loop-slot.last c.args.part.now (x ∷ []) c.loop-slot.slot-index there c.loop-slot.invariant.is;
    }
