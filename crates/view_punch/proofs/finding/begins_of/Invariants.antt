use Rattle.std.proofs.Common.{◌≡◌, take}
use Rattle.view_punch.specs.Finding.{begins_of}
use Rattle.view_punch.proofs.finding.begins_of.Given as goal

abbrev pub invariant-loop-line : goal.invariant-loop-line
invariant-loop-line g l = l.begins.items ≡ begins_of (take l.line-index l.lines)
