use Rattle.std.proofs.Common.{All}
use Rattle.desk_ops.specs.Op.{IsLawful}
use Rattle.test_copy.proofs.held.row_of.Given as goal

abbrev pub invariant-loop-k : goal.invariant-loop-k
invariant-loop-k l = All IsLawful l.ops.items
