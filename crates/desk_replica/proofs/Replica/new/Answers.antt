use Rattle.desk_replica.proofs.Sound.{sound-none}
use Rattle.desk_replica.proofs.Replica.new.Goals as goal

pub invariant_of-result : goal.invariant_of-result
invariant_of-result g c = sound-none c.args.site c.new.result.ops c.new-3.result (g.Q.Sequence.entries c.empty.result) c.new-2.result.ops (g.Q.Sequence.free c.empty.result) c.requires c.new.ensures c.new-3.ensures c.empty.ensures c.new-2.ensures
