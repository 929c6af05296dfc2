use Rattle.std.proofs.Common.{◌≡◌, ◌++◌, string_bytes, drop}
use Rattle.view_proof.specs.Faults.{line_faults_text}
use Rattle.view_proof.proofs.faults.put_line_faults.Given as goal

abbrev pub invariant-loop-line : goal.invariant-loop-line
invariant-loop-line g l = string_bytes l.out ++ line_faults_text l.copy l.scale (drop l.line-index l.lines) ≡ string_bytes l.fn.out ++ line_faults_text l.copy l.scale l.lines
