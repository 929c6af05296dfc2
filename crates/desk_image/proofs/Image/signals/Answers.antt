use Rattle.std.proofs.Common.{◌≡◌, ℕ, ◌-◌, length, List, ◌++◌, arith, sym, ap₂}
use Rattle.std.proofs.lemmas.Nat.{one_shl}
use Rattle.desk_signals.specs.declared.Signal.{Signal}
use Rattle.desk_image.specs.Images.{signals_in}
use Rattle.desk_image.proofs.Bits.{found_more, bit_within, rest_below}
use Rattle.desk_image.proofs.Image.signals.Goals as goal

pub loop-rest-init : goal.loop-rest-init
loop-rest-init c = record {
  found = ap₂ (λ (ys : List Signal) (n : ℕ). ys ++ signals_in n) (sym c.new-signals.ensures) (sym c.self.view_is);
  room = rw c.new-signals.ensures (omega arith);
  left = rw c.new-signals.ensures (omega (arith, c.requires, c.self.view_is));
}

pub overflow_sub-high : goal.overflow_sub-high
overflow_sub-high c =
    omega (arith, bit_within c.loop-rest.rest c.ilog2-high.result _ c.ilog2-high.ensures.power_le c.loop-rest.invariant.left)

pub push-requires : goal.push-requires
push-requires c =
    omega (arith, bit_within c.loop-rest.rest c.ilog2-high.result _ c.ilog2-high.ensures.power_le c.loop-rest.invariant.left)

pub loop-rest-preserved : goal.loop-rest-preserved
loop-rest-preserved c =
    let within = bit_within c.loop-rest.rest c.ilog2-high.result _ c.ilog2-high.ensures.power_le c.loop-rest.invariant.left in
    let one = one_shl c.ilog2-high.result 32 c.ilog2-high.ensures.bound in
    let grown = c.push.ensures.len in
    let less : 31 - length c.push.new.self.items ≡ 31 - length c.loop-rest.signals.items - 1 = omega (arith, grown) in
    record {
      found =
          found_more c.args.self c.loop-rest.rest c.ilog2-high.result _ _ c.loop-rest.signals.items c.push.new.self.items
          (omega (arith, within)) c.ilog2-high.ensures.power_le c.ilog2-high.ensures.next_power_gt one c.loop-rest.invariant.found
          c.push.ensures.items;
      room = omega (arith, within, grown);
      left =
          rw one
          (rw less
          (rest_below c.loop-rest.rest c.ilog2-high.result _ c.ilog2-high.ensures.power_le c.ilog2-high.ensures.next_power_gt within));
    }
