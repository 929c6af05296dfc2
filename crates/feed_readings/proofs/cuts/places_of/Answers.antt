use Rattle.std.proofs.Common.{◌≡◌, ◌+◌, ◌-◌, ℕ, arith, drop, sym, subst, ◌∙◌}
use Rattle.std.proofs.Common.{length, ◌<◌}
use Rattle.desk_ops.specs.declared.op.Stamp.{Stamp}
use Rattle.desk_ops.specs.declared.op.Style.TheVariants.{Roman}
use Rattle.feed_readings.specs.declared.reading.Shown.{Shown}
use Rattle.feed_readings.specs.Cuts.{place_from}
use Rattle.feed_readings.specs.Finding.{place_in}
use Rattle.feed_readings.proofs.Placed.{placed, skipped}
use Rattle.feed_readings.proofs.cuts.places_of.Goals as goal

pub loop-at-preserved-in_ok-insert : goal.loop-at-preserved-in_ok-insert
loop-at-preserved-in_ok-insert g c =
    let list = c.args.list.now in
    let at = c.loop-at.at in
    let n = c.loop-at.at - 1 in
    let d : Shown = record { stamp = record { counter = 0; site = 0 }; symbol = record { style = Roman; ch = 0 } } in
    let same : n + 1 ≡ at = omega arith in
    let lt : n < length list = omega (arith, c.loop-at.invariant.within) in
    let was = subst (λ (k : ℕ). (q : Stamp) → place_in c.loop-at.places q ≡ place_from k (drop k list) q) (sym same) c.loop-at.invariant.placed in
    record {
      within = omega (arith, c.loop-at.invariant.within);
      placed = placed list n d c.loop-at.places c.insert.new.self lt (sym c.is_white.ensures ∙ c.if-is_white.true) c.in_ok-insert.ensures.updates.0 was;
    }

pub loop-at-preserved : goal.loop-at-preserved
loop-at-preserved g c =
    let list = c.args.list.now in
    let at = c.loop-at.at in
    let n = c.loop-at.at - 1 in
    let d : Shown = record { stamp = record { counter = 0; site = 0 }; symbol = record { style = Roman; ch = 0 } } in
    let same : n + 1 ≡ at = omega arith in
    let lt : n < length list = omega (arith, c.loop-at.invariant.within) in
    let was = subst (λ (k : ℕ). (q : Stamp) → place_in c.loop-at.places q ≡ place_from k (drop k list) q) (sym same) c.loop-at.invariant.placed in
    record {
      within = omega (arith, c.loop-at.invariant.within);
      placed = skipped list n d c.loop-at.places lt (sym c.is_white.ensures ∙ c.if-is_white.false) was;
    }
