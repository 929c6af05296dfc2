use Rattle.std.proofs.Common.{◌∙◌}
use Rattle.desk_ops.specs.OrderLaws.{op_tie}
use Rattle.feed_sites.proofs.Skipping.{begins_first}
use Rattle.feed_sites.proofs.alone.begins.Goals as goal

pub returns-in-Some : goal.returns-in-Some
returns-in-Some c = c.eq.ensures ∙ op_tie c.args.op.now c.in-Some.first.now ∙ begins_first c.args.op.now c.in-Some.first.now c.args.ops.now c.in-Some.ensures.value
