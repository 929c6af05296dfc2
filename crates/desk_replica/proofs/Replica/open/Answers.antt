use Rattle.std.proofs.Common.{◌<◌, subst}
use Rattle.desk_ops.specs.OpSet.{OpSet, with_all, size, max_ops}
use Rattle.desk_replica.proofs.Sets.{none_has_room, too_many}
use Rattle.desk_replica.proofs.Replica.open.Goals as goal

pub returns-in-Err-clause-full : goal.returns-in-Err-clause-full
returns-in-Err-clause-full g c =
    λ e. subst (λ (h : OpSet). max_ops < size (with_all h c.args.ops.now)) c.new-replica.ensures.ops
    (too_many c.new-replica.result.ops c.take_all.new.self.ops c.args.ops.now c.in-Err.stopped c.in-Err.ensures.stopped e)

pub returns-in-Err-clause-empty : goal.returns-in-Err-clause-empty
returns-in-Err-clause-empty g c = λ none. c.in-Err.ensures.room (none_has_room c.new-replica.result.ops c.new-replica.result.spare c.args.ops.now c.new-replica.ensures.ops none)
