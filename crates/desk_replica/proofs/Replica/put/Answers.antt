use Rattle.std.proofs.Common.{◌∙◌, ap, sym}
use Rattle.desk_ops.specs.OpSet.{has_op}
use Rattle.desk_ops.proofs.OpSets.{with_op-known}
use Rattle.desk_replica.proofs.Replica.put.Goals as goal

pub returns-then-is_known-clause-ok : goal.returns-then-is_known-clause-ok
returns-then-is_known-clause-ok g c = sym (with_op-known c.args.self.now.ops c.args.op (ap (λ s. has_op s.ops c.args.op) (sym c.self.view_is) ∙ sym c.is_known.ensures ∙ c.if-is_known.true))
