use Rattle.std.proofs.Common.{◌∙◌, ap}
use Rattle.desk_ops.specs.Op.{stamp_of}
use Rattle.desk_ops.specs.Held.{is_borne_in}
use Rattle.desk_ops.proofs.Bearers.{above_unborne}
use Rattle.desk_replica.proofs.Replica.make.Goals as goal

pub enter-requires-clause-new : goal.enter-requires-clause-new
enter-requires-clause-new g c = ap (λ h. is_borne_in h (stamp_of c.args.op)) c.reserve.ensures.ops ∙ above_unborne c.args.self.now.ops (stamp_of c.args.op) c.requires.new
