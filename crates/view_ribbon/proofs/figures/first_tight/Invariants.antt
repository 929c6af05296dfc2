use Rattle.std.proofs.Common.{◌≡◌, drop}
use Rattle.view_ribbon.specs.Figures.{first_tight}
use Rattle.view_ribbon.proofs.figures.first_tight.Given as goal

abbrev pub invariant-loop-line : goal.invariant-loop-line
invariant-loop-line g l = (first_tight l.sum l.before (drop l.line-index l.lines) ≡ first_tight l.sum 0 l.lines) × (l.before ≡ l.line-index)
