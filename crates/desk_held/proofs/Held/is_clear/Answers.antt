use Rattle.std.proofs.Common.{◌∙◌, ap}
use Rattle.std.specs.Option.{is_some}
use Rattle.desk_ops.specs.OpSet.{in_order}
use Rattle.desk_ops.proofs.Bearers.{is_some-sole}
use Rattle.desk_held.proofs.Held.is_clear.Goals as goal

pub returns : goal.returns
returns g c = c.is_some.ensures ∙ ap is_some c.clear_op.ensures ∙ is_some-sole (in_order c.args.self.now.ops) c.args.stamp
