use Rattle.std.proofs.Common.{arith}
use Rattle.desk_replica.proofs.Replica.reserve.Goals as goal

pub reserve_all-requires : goal.reserve_all-requires
reserve_all-requires g c = omega (arith, c.requires, c.self.invariant.few, c.self.invariant.within)
