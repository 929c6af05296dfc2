use Rattle.std.proofs.Common.{◌≡◌, ◌++◌, drop}
use Rattle.view_preview.specs.Looks.{hyphens}
use Rattle.view_preview.proofs.looks.add_hyphens.Given as goal

abbrev pub invariant-loop-line : goal.invariant-loop-line
invariant-loop-line g l = l.looks.items ++ hyphens l.copy (drop l.line-index l.lines) ≡ l.fn.looks.items ++ hyphens l.copy l.lines
