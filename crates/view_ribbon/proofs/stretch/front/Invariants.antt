use Rattle.std.proofs.Common.{◌≡◌, ◌+◌, ◌≤◌, drop}
use Rattle.view_ribbon.specs.Stretch.{front_from}
use Rattle.view_ribbon.proofs.stretch.front.Given as goal

abbrev pub invariant-loop-row : goal.invariant-loop-row
invariant-loop-row l = (l.place + front_from l.last l.before (drop l.row-index l.rows) ≡ front_from l.last 0 l.rows) × (l.before ≤ l.row-index) × (l.place ≡ l.row-index)
