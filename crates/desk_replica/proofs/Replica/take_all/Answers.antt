use Rattle.desk_replica.proofs.Sets.{count-new, count-known, counted}
use Rattle.desk_replica.proofs.Merges.{kept-all, kept-first}
use Rattle.desk_replica.proofs.Replica.take_all.Goals as goal

pub overflow_sub-new : goal.overflow_sub-new
overflow_sub-new g c = count-new c.args.self.now.ops c.take_in.new.self.ops c.args.ops.now c.len-before.result c.len.result c.in_ok-take_in.ensures.ok c.len-before.ensures.value c.len.ensures.value

pub overflow_sub-result : goal.overflow_sub-result
overflow_sub-result g c = count-known c.args.self.now.ops c.take_in.new.self.ops c.args.ops.now c.len-before.result c.len.result c.in_ok-take_in.ensures.ok c.len-before.ensures.value c.len.ensures.value

pub returns-clause-counts : goal.returns-clause-counts
returns-clause-counts g c = counted c.args.self.now.ops c.take_in.new.self.ops c.args.ops.now c.len-before.result c.len.result c.in_ok-take_in.ensures.ok c.len-before.ensures.value c.len.ensures.value

pub returns-in_err-take_in-clause-order : goal.returns-in_err-take_in-clause-order
returns-in_err-take_in-clause-order g c = kept-first c.args.self.now.ops c.take_in.new.self.ops c.args.ops.now c.in_err-take_in.field-0.0.taken c.len-before.ensures.lawful c.requires c.in_err-take_in.ensures.stopped.gained

pub returns-clause-order : goal.returns-clause-order
returns-clause-order g c = kept-all c.args.self.now.ops c.take_in.new.self.ops c.args.ops.now c.len-before.ensures.lawful c.requires c.in_ok-take_in.ensures.ok
