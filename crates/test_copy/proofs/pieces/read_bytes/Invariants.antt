use Rattle.std.proofs.Common.{◌≡◌}
use Rattle.test_copy.proofs.pieces.read_bytes.Given as goal

abbrev pub invariant-loop-k : goal.invariant-loop-k
invariant-loop-k l = l.reader.taken ≡ l.k
