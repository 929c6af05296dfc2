use Rattle.std.proofs.Common.{◌≡◌, ◌+◌, ◌-◌, ◌<◌, true, length, sym, ap, subst, ◌∙◌, arith}
use Rattle.std.specs.List.{AllWithin}
use Rattle.std.proofs.lemmas.List.{get_or_default}
use Rattle.desk_ops.specs.Stamp.{before}
use Rattle.desk_replica.proofs.ByStamp.{early_more, late_more}
use Rattle.feed_history.proofs.stamped.is_seat.Goals as goal

pub returns-then-place-eq0 : goal.returns-then-place-eq0
returns-then-place-eq0 g c h =
    let borne = g.T.Stamped.borne in
    let xs = c.args.items.now in
    let s = c.args.stamp in
    let place = c.args.place in
    let within : place < length xs = omega (arith, c.if-place-items.false) in
    record {
      within = omega arith;
      early = λ k d low high. absurd (omega (arith, c.if-place-eq0.true));
      late = late_more borne xs s place c.requires (λ d.
          ap (λ x. before (borne x) s) (get_or_default xs place d c.index-items-place.result within ∙ sym c.index-items-place.is)
          ∙ sym (c.is_before.ensures ∙ ap (λ t. before t s) c.stamp_of.ensures) ∙ c.if-is_before.false);
    }

pub returns-else-place-eq0 : goal.returns-else-place-eq0
returns-else-place-eq0 g c h =
    let borne = g.T.Stamped.borne in
    let xs = c.args.items.now in
    let s = c.args.stamp in
    let place = c.args.place in
    let before_it = place - 1 in
    let within : place < length xs = omega (arith, c.if-place-items.false) in
    let some : 0 < place = omega (arith, c.if-place-eq0.false) in
    let next : before_it + 1 ≡ place = omega arith in
    let early : before_it < length xs = omega arith in
    record {
      within = omega arith;
      early = subst (λ n. AllWithin (λ x. before (borne x) s ≡ true) xs 0 n) next (early_more borne xs s before_it c.requires early (λ d.
          ap (λ x. before (borne x) s) (get_or_default xs before_it d c.index-items-place-else-place-eq0.result early ∙ sym c.index-items-place-else-place-eq0.is)
          ∙ sym (c.is_before-else-place-eq0.ensures ∙ ap (λ t. before t s) c.stamp_of-else-place-eq0.ensures) ∙ h));
      late = late_more borne xs s place c.requires (λ d.
          ap (λ x. before (borne x) s) (get_or_default xs place d c.index-items-place.result within ∙ sym c.index-items-place.is)
          ∙ sym (c.is_before.ensures ∙ ap (λ t. before t s) c.stamp_of.ensures) ∙ c.if-is_before.false);
    }
