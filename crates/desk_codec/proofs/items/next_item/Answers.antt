use Rattle.desk_codec.proofs.RunLaws.{op_given}
use Rattle.desk_codec.proofs.items.next_item.Goals as goal

pub returns-clause-item : goal.returns-clause-item
returns-clause-item g c = op_given c.args.form c.args.bytes.now c.in_ok-op.rest.now c.in_ok-op.op c.args.ops.now c.push.new.self c.in_ok-op.ensures.op.0 c.in_ok-op.ensures.op.1 c.push.ensures
