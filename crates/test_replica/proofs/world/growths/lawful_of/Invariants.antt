use Rattle.std.proofs.Common.{All}
use Rattle.desk_ops.specs.Op.{IsLawful}
use Rattle.test_replica.proofs.world.growths.lawful_of.Given as goal

abbrev pub invariant-loop-op : goal.invariant-loop-op
invariant-loop-op l = All IsLawful l.ops.items
