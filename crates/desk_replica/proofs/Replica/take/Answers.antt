use Rattle.desk_replica.proofs.Merges.{kept-one}
use Rattle.desk_replica.proofs.Replica.take.Goals as goal

pub returns-clause-order : goal.returns-clause-order
returns-clause-order g c = kept-one c.args.self.now.ops c.put.new.self.ops c.args.op c.put.ensures.lawful c.requires c.in_ok-put.ensures.ok
