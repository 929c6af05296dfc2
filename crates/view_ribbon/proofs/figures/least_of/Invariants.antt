use Rattle.std.proofs.Common.{◌≡◌, drop}
use Rattle.view_ribbon.specs.Figures.{least_from}
use Rattle.view_ribbon.proofs.figures.least_of.Given as goal

abbrev pub invariant-loop-line : goal.invariant-loop-line
invariant-loop-line g l = least_from l.least (drop l.line-index l.lines) ≡ least_from 240 l.lines
