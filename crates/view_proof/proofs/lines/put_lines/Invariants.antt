use Rattle.std.proofs.Common.{◌≡◌, ◌++◌, string_bytes, drop}
use Rattle.view_proof.specs.Lines.{lines_text}
use Rattle.view_proof.proofs.lines.put_lines.Given as goal

abbrev pub invariant-loop-line : goal.invariant-loop-line
invariant-loop-line g l = string_bytes l.out ++ lines_text l.copy l.scale (drop l.line-index l.lines) ≡ string_bytes l.fn.out ++ lines_text l.copy l.scale l.lines
