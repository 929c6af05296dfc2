use Rattle.std.proofs.Common.{◌≡◌, drop}
use Rattle.view_ribbon.specs.Figures.{first_wide}
use Rattle.view_ribbon.proofs.figures.first_wide.Given as goal

abbrev pub invariant-loop-line : goal.invariant-loop-line
invariant-loop-line g l = (first_wide l.width l.before (drop l.line-index l.lines) ≡ first_wide l.width 0 l.lines) × (l.before ≡ l.line-index)
