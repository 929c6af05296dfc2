use Rattle.std.proofs.Common.{◌∙◌, ◌++◌, ap}
use Rattle.feed_history.specs.Rows.{row_of}
use Rattle.feed_history.proofs.Rows.{next_row, row_of_none}
use Rattle.feed_history.proofs.stamped.put_row.Goals as goal

pub loop-counter-preserved : goal.loop-counter-preserved
loop-counter-preserved g c =
    let borne = g.T.Stamped.borne in
    next_row borne c.args.items.now c.loop-counter.row.items c.extend_from_slice.new.self.items (c.args.row.now.items ++ row_of borne c.args.items.now c.args.correction) c.args.correction.site c.loop-counter.counter c.args.correction.last c.loop-counter-test.true
    (c.in_ok-extend_from_slice.ensures.items ∙ ap (λ l. c.loop-counter.row.items ++ l) c.bearing.ensures) c.loop-counter.invariant

pub returns-then-is_empty : goal.returns-then-is_empty
returns-then-is_empty g c = row_of_none g.T.Stamped.borne c.args.items.now c.args.row.now.items c.args.correction c.is_empty.result c.if-is_empty.true c.is_empty.ensures
