use Rattle.std.proofs.Common.{◌≡◌, ◌<◌, ◌≤◌, true, false, length, sym, ap, subst, ◌∙◌, arith}
use Rattle.std.specs.List.{AllWithin}
use Rattle.std.proofs.lemmas.List.{get_or_default}
use Rattle.desk_ops.specs.Stamp.{before}
use Rattle.desk_replica.proofs.ByStamp.{early_more, late_more}
use Rattle.desk_replica.proofs.seats.seat.Goals as goal
use Rattle.desk_replica.proofs.seats.seat.Goals.{then-is_before, else-is_before}

pub loop-from-preserved : goal.loop-from-preserved
loop-from-preserved g c =
    let borne = g.T.Stamped.borne in
    let xs = c.args.items.now in
    let s = c.args.stamp in
    let at = c.min-at.result in
    let low : c.loop-from.from ≤ at = omega arith in
    let high : at < c.loop-from.until = omega arith in
    let within : at < length xs = omega arith in
    elim c.if-is_before.branch [
      | then-is_before w ↦ record {
        order = omega arith;
        within = omega arith;
        early = subst (λ n. AllWithin (λ x. before (borne x) s ≡ true) xs 0 n) (sym w.from-is) (early_more borne xs s at c.requires within (λ d.
            ap (λ x. before (borne x) s) (get_or_default xs at d c.index-items-at.result within ∙ sym c.index-items-at.is)
            ∙ sym (c.is_before.ensures ∙ ap (λ t. before t s) c.stamp_of.ensures) ∙ w.if-is_before.true));
        late = subst (λ n. AllWithin (λ x. before (borne x) s ≡ false) xs n (length xs)) (sym w.until-is) c.loop-from.invariant.late;
      }
      | else-is_before w ↦ record {
        order = omega arith;
        within = omega arith;
        early = subst (λ n. AllWithin (λ x. before (borne x) s ≡ true) xs 0 n) (sym w.from-is) c.loop-from.invariant.early;
        late = subst (λ n. AllWithin (λ x. before (borne x) s ≡ false) xs n (length xs)) (sym w.until-is) (late_more borne xs s at c.requires (λ d.
            ap (λ x. before (borne x) s) (get_or_default xs at d c.index-items-at.result within ∙ sym c.index-items-at.is)
            ∙ sym (c.is_before.ensures ∙ ap (λ t. before t s) c.stamp_of.ensures) ∙ w.if-is_before.false));
      }
    ]
