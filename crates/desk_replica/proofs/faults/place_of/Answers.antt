use Rattle.std.proofs.Common.{◌<◌, length, sym, ap, ◌∙◌, arith}
use Rattle.std.proofs.lemmas.List.{get_or_default}
use Rattle.desk_ops.specs.Op.{stamp_of}
use Rattle.desk_ops.specs.Stamp.{same}
use Rattle.desk_ops.proofs.Stamps.{same-true}
use Rattle.desk_replica.proofs.ByStamp.{seat_bare}
use Rattle.desk_replica.proofs.faults.place_of.Goals as goal
use Rattle.desk_replica.proofs.faults.place_of.Goals.{then-place-ops-via-then-place-ops, then-place-ops-via-else-place-ops+then-not-is_same}

pub returns-then-place-ops : goal.returns-then-place-ops
returns-then-place-ops c =
    seat_bare c.args.ops.now c.args.stamp c.seat-place.result c.requires c.seat-place.ensures
    (λ lt d. elim c.then-place-ops.branch [
      | then-place-ops-via-then-place-ops w ↦ absurd (omega (arith, w.if-place-ops.true, lt))
      | then-place-ops-via-else-place-ops+then-not-is_same w ↦
          ap (λ o. same (stamp_of o) c.args.stamp) (get_or_default c.args.ops.now c.seat-place.result d _ lt)
          ∙ sym (w.is_same.ensures ∙ ap (λ t. same t c.args.stamp) w.stamp.ensures) ∙ w.if-not-is_same.true
    ])

pub returns : goal.returns
returns c =
    let lt : c.seat-place.result < length c.args.ops.now = omega (arith, c.seat-place.ensures.within, c.if-place-ops.false) in
    record {
      within = lt;
      bears = λ d. ap stamp_of (get_or_default c.args.ops.now c.seat-place.result d _ lt)
          ∙ sym c.stamp.ensures ∙ same-true c.stamp.result c.args.stamp (sym c.is_same.ensures ∙ c.if-not-is_same.false);
    }
