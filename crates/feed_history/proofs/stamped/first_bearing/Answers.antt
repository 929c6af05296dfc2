use Rattle.std.proofs.Common.{◌<◌, length, sym, ap, ◌∙◌, arith}
use Rattle.std.specs.Prelude.{Some}
use Rattle.std.proofs.lemmas.List.{get_or_default}
use Rattle.desk_ops.specs.Stamp.{same}
use Rattle.feed_history.proofs.Rows.{first_found, none_found}
use Rattle.feed_history.proofs.stamped.first_bearing.Goals as goal
use Rattle.feed_history.proofs.stamped.first_bearing.Goals.{then-from-items-via-then-from-items, then-from-items-via-else-from-items+then-not-is_same}

pub returns-then-from-items : goal.returns-then-from-items
returns-then-from-items g c =
    let borne = g.T.Stamped.borne in
    let xs = c.args.items.now in
    none_found borne c.args.stamp xs c.next_seat-from.result c.requires c.next_seat-from.ensures
    (λ lt d. elim c.then-from-items.branch [
      | then-from-items-via-then-from-items w ↦ absurd (omega (arith, w.if-from-items.true, lt))
      | then-from-items-via-else-from-items+then-not-is_same w ↦
          ap (λ x. same (borne x) c.args.stamp) (get_or_default xs c.next_seat-from.result d w.index-items-from.result lt ∙ sym w.index-items-from.is)
          ∙ sym (w.is_same.ensures ∙ ap (λ t. same t c.args.stamp) w.stamp_of.ensures) ∙ w.if-not-is_same.true
    ])

pub returns : goal.returns
returns g c =
    let borne = g.T.Stamped.borne in
    let xs = c.args.items.now in
    let lt : c.next_seat-from.result < length xs = omega (arith, c.next_seat-from.ensures.within, c.if-from-items.false) in
    ap Some c.index-items-from-2.is
    ∙ first_found borne c.args.stamp xs c.next_seat-from.result c.index-items-from-2.result c.next_seat-from.ensures.early lt
    (ap (λ x. same (borne x) c.args.stamp) (get_or_default xs c.next_seat-from.result c.index-items-from-2.result c.index-items-from.result lt ∙ sym c.index-items-from.is)
    ∙ sym (c.is_same.ensures ∙ ap (λ t. same t c.args.stamp) c.stamp_of.ensures) ∙ c.if-not-is_same.false)
