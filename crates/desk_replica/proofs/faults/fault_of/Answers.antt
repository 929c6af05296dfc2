use Rattle.std.proofs.Common.{ap}
use Rattle.desk_ops.specs.Op.{target_of}
use Rattle.desk_replica.proofs.faults.fault_of.Goals as goal

pub kind_of-requires-clause-older : goal.kind_of-requires-clause-older
kind_of-requires-clause-older c = c.requires.older c.in-Insert.parent (ap target_of c.in-Insert.is)

pub kind_of-requires-in-Delete-clause-older : goal.kind_of-requires-in-Delete-clause-older
kind_of-requires-in-Delete-clause-older c = c.requires.older c.in-Delete.target (ap target_of c.in-Delete.is)
