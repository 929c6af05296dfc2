use Rattle.std.proofs.Common.{◌≡◌, ◌+◌, ◌-◌, ◌++◌}
use Rattle.feed_history.specs.Rows.{row_from, row_of}
use Rattle.feed_history.proofs.stamped.put_row.Given as goal

abbrev pub invariant-loop-counter : goal.invariant-loop-counter
invariant-loop-counter g l =
    let borne = g.T.Stamped.borne in
    l.row.items ++ row_from borne l.items l.site l.counter (l.fn.correction.last + 1 - l.counter) ≡ l.fn.row.items ++ row_of borne l.items l.fn.correction
