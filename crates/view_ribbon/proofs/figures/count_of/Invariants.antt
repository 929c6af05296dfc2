use Rattle.std.proofs.Common.{◌≡◌, ◌+◌, ◌*◌, ◌^◌, ◌≤◌, drop}
use Rattle.view_ribbon.specs.Figures.{count_of}
use Rattle.view_ribbon.proofs.figures.count_of.Given as goal

abbrev pub invariant-loop-line : goal.invariant-loop-line
invariant-loop-line g l = (l.count + count_of l.what (drop l.line-index l.lines) ≡ count_of l.what l.lines) × (l.count ≤ l.line-index * 2 ^ 64)
