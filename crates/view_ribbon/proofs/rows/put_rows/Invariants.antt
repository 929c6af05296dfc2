use Rattle.std.proofs.Common.{◌≡◌, ◌+◌, ◌++◌, ◌≤◌, string_bytes, drop}
use Rattle.view_ribbon.specs.Rows.{rows_text}
use Rattle.view_ribbon.proofs.rows.put_rows.Given as goal

abbrev pub invariant-rows : goal.invariant-rows
invariant-rows g l = (string_bytes l.out ≡ string_bytes l.fn.out ++ rows_text l.case (l.first + l.count) (l.first + l.place) (drop l.place l.rows)) × (l.place ≤ l.count)

abbrev pub decreases-rows : goal.decreases-rows
decreases-rows g l = l.place
