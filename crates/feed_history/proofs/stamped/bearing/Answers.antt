use Rattle.std.proofs.Common.{◌∙◌, ◌-◌, ap, sym, arith}
use Rattle.std.proofs.lemmas.List.{get_or_default}
use Rattle.desk_ops.specs.Stamp.{same}
use Rattle.feed_history.proofs.Rows.{found}
use Rattle.feed_history.proofs.stamped.bearing.Goals as goal
use Rattle.feed_history.proofs.stamped.bearing.Goals.{then-loop-until-test+else-is_same, else-loop-until-test}

pub returns : goal.returns
returns g c =
    let borne = g.T.Stamped.borne in
    let xs = c.args.items.now in
    let s = c.args.stamp in
    let at = c.next_seat-from.ensures in
    found borne s xs c.next_seat-from.result (c.loop-until.until - c.next_seat-from.result) c.loop-until.until (omega (arith, c.loop-until.invariant.after)) c.requires.rising c.loop-until.invariant.within at.early at.late c.loop-until.invariant.bear
    (λ lt d. elim c.loop-until-test.branch [
      | then-loop-until-test+else-is_same w ↦
          ap (λ x. same (borne x) s) (get_or_default xs c.loop-until.until d w.index-items-until.result lt ∙ sym w.index-items-until.is) ∙ sym (w.is_same.ensures ∙ ap (λ t. same t s) w.stamp_of.ensures) ∙ w.if-is_same.false
      | else-loop-until-test w ↦ absurd (omega (arith, w.loop-until-test.false))
    ])
