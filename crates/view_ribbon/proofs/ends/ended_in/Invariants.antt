use Rattle.std.proofs.Common.{◌≡◌, ◌≤◌, ◌++◌, drop}
use Rattle.view_ribbon.specs.Ends.{ended, ended_from}
use Rattle.view_ribbon.proofs.ends.ended_in.Given as goal

abbrev pub invariant-loop-row : goal.invariant-loop-row
invariant-loop-row g l =
    (l.galleys.items ++ ended_from l.lines l.is_out (drop l.row-index l.rows) ≡ ended l.rows) × (l.lines ≤ l.row-index)
