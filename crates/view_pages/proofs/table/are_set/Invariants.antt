use Rattle.std.proofs.Common.{◌≡◌, drop}
use Rattle.view_preview.specs.Proofing.{are_set}
use Rattle.view_pages.proofs.table.are_set.Given as goal

abbrev pub invariant-loop-line : goal.invariant-loop-line
invariant-loop-line g l = are_set (drop l.line-index l.lines) ≡ are_set l.lines
