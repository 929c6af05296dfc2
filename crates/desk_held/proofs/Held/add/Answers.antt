use Rattle.std.proofs.Common.{◌∙◌, sym}
use Rattle.desk_ops.proofs.OpSets.{with_op-known}
use Rattle.desk_held.proofs.Held.add.Goals as goal

pub returns-then-has-clause-ok : goal.returns-then-has-clause-ok
returns-then-has-clause-ok g c = sym (with_op-known c.args.self.now.ops c.args.op (sym c.has.ensures ∙ c.if-has.true))
