use Rattle.std.proofs.Common.{◌≡◌, drop}
use Rattle.view_ribbon.specs.Lines.{longest_from}
use Rattle.view_ribbon.proofs.lines.longest_from.Given as goal

abbrev pub invariant-loop-line : goal.invariant-loop-line
invariant-loop-line g l = longest_from l.widest (drop l.line-index l.lines) ≡ longest_from l.initial.widest l.lines
