use Rattle.std.proofs.Common.{subst}
use Rattle.std.specs.List.{AllByRecursion}
use Rattle.desk_ops.specs.Op.{IsLawful}
use Rattle.desk_replica.proofs.Sets.{each-of-all}
use Rattle.desk_replica.proofs.Replica.lay_out.Goals as goal

pub replace-requires-clause-lawful : goal.replace-requires-clause-lawful
replace-requires-clause-lawful g c = subst (AllByRecursion IsLawful) c.requires.listed (each-of-all c.args.list.now c.requires.lawful)
