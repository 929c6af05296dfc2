use Rattle.std.proofs.Common.{◌≡◌, ◌+◌, ◌≤◌, drop}
use Rattle.std.specs.List.{count_by}
use Rattle.view_ribbon.specs.Figures.{is_counted}
use Rattle.view_ribbon.proofs.figures.count_in.Given as goal

abbrev pub invariant-loop-matrix : goal.invariant-loop-matrix
invariant-loop-matrix l = (l.count + count_by (is_counted l.what) (drop l.matrix-index l.matrices) ≡ count_by (is_counted l.what) l.matrices) × (l.count ≤ l.matrix-index)
