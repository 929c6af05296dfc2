use Rattle.std.proofs.Common.{◌≡◌, ◌++◌, string_bytes}
use Rattle.view_punch.specs.Layout.{lines_to}
use Rattle.view_punch.proofs.layout.put_lines.Given as goal

abbrev pub invariant-loop-row : goal.invariant-loop-row
invariant-loop-row g l = string_bytes l.out ≡ string_bytes l.fn.out ++ lines_to l.case l.row
