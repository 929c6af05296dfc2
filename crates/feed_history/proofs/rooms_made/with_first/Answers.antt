use Rattle.std.proofs.Common.{◌≡◌, ◌+◌, ◌∙◌, ap, arith, max, sym}
use Rattle.std.specs.Prelude.{nat_lt, ◌||◌}
use Rattle.std.specs.Int.{from_bool}
use Rattle.std.proofs.lemmas.Bool.{le-ltb, lt-ltb, or_left}
use Rattle.desk_ops.specs.declared.op.Stamp.{Stamp}
use Rattle.desk_ops.specs.Op.{stamp_of}
use Rattle.feed_history.proofs.RoomsTables.{before_all}
use Rattle.feed_history.proofs.rooms_made.with_first.Goals as goal
use Rattle.feed_history.proofs.rooms_made.with_first.Goals.{then-saturating_sub-gt1, else-saturating_sub-gt1}

pub returns : goal.returns
returns c = λ ops e.
    let counter : c.stamp-counter.result.counter ≡ (stamp_of c.args.op.now).counter = ap (λ (s : Stamp). s.counter) c.stamp-counter.ensures in
    let gaps : c.if-saturating_sub-gt1.result ≡ (nat_lt ((stamp_of c.args.op.now).counter + 1) c.args.made.least || c.args.made.gaps) = elim c.if-saturating_sub-gt1.branch [
      | then-saturating_sub-gt1 w ↦ w.result-is ∙ lt-ltb 1 c.saturating_sub.result w.if-saturating_sub-gt1.true
          ∙ sym (or_left (nat_lt ((stamp_of c.args.op.now).counter + 1) c.args.made.least) c.args.made.gaps (lt-ltb ((stamp_of c.args.op.now).counter + 1) c.args.made.least (omega (arith, counter, c.saturating_sub.ensures, w.if-saturating_sub-gt1.true))))
      | else-saturating_sub-gt1 w ↦ w.result-is
          ∙ sym (ap (λ b. b || c.args.made.gaps) (le-ltb ((stamp_of c.args.op.now).counter + 1) c.args.made.least (omega (arith, counter, c.saturating_sub.ensures, w.if-saturating_sub-gt1.false))))
    ] in
    before_all c.args.op.now ops c.args.made c.stamp-counter.result.counter c.max.result c.if-saturating_sub-gt1.result c.from.result c.from-2.result c.from-3.result e
    counter (c.max.ensures ∙ ap (λ n. max n c.args.made.greatest) counter) gaps
    (c.from.ensures ∙ ap from_bool c.is_insert.ensures) (c.from-2.ensures ∙ ap from_bool c.is_delete.ensures) (c.from-3.ensures ∙ ap from_bool c.is_set.ensures)
