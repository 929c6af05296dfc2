use Rattle.std.proofs.Common.{◌≡◌, ◌++◌, string_bytes, drop}
use Rattle.view_ribbon.specs.Lines.{matrices_text}
use Rattle.view_ribbon.proofs.lines.put_matrices.Given as goal

abbrev pub invariant-loop-matrix : goal.invariant-loop-matrix
invariant-loop-matrix g l = string_bytes l.out ++ matrices_text (drop l.matrix-index l.matrices) ≡ string_bytes l.fn.out ++ matrices_text l.matrices
