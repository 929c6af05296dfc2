use Rattle.std.proofs.Common.{refl}
use Rattle.program_desk.proofs.Explaining.{reported_first}
use Rattle.program_desk.proofs.reporting.reported.Goals as goal

pub returns : goal.returns
returns g c = (refl, reported_first c.args.cause c.silent.result.is_whole c.reported_more-told.result.is_whole (g.E.Write.contents c.args.faults.now) (g.E.Write.contents c.reported_more-told.new.faults) c.silent.ensures c.reported_more-told.ensures)
