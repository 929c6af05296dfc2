use Rattle.std.proofs.Common.{◌≡◌, ◌+◌, drop}
use Rattle.toml.specs.View.{items_view}
use Rattle.feed_check.specs.Rows.{first_row}
use Rattle.feed_check.proofs.rows.first_row.Given as goal

abbrev pub invariant-loop-at : goal.invariant-loop-at
invariant-loop-at l = first_row l.wanted 1 (items_view l.rows) ≡ first_row l.wanted (l.at + 1) (items_view (drop l.at l.rows))
