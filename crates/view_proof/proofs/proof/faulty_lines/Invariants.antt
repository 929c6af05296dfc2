use Rattle.std.proofs.Common.{◌≡◌, ◌+◌, ◌≤◌, drop}
use Rattle.view_proof.specs.Proof.{faulty_lines}
use Rattle.view_proof.proofs.proof.faulty_lines.Given as goal

abbrev pub invariant-loop-line : goal.invariant-loop-line
invariant-loop-line g l = (l.count + faulty_lines (drop l.line-index l.lines) ≡ faulty_lines l.lines) × (l.count ≤ l.line-index)
