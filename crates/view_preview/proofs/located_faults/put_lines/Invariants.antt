use Rattle.std.proofs.Common.{◌≡◌, ◌++◌, string_bytes, drop}
use Rattle.view_preview.specs.LocatedFaults.{lines_text}
use Rattle.view_preview.proofs.located_faults.put_lines.Given as goal

abbrev pub invariant-loop-line : goal.invariant-loop-line
invariant-loop-line g l = string_bytes l.out ++ lines_text l.at l.scale (drop l.line-index l.lines) ≡ string_bytes l.fn.out ++ lines_text l.at l.scale l.lines
