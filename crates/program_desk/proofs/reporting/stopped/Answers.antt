use Rattle.std.proofs.Common.{refl}
use Rattle.program_desk.proofs.Explaining.{told_first}
use Rattle.program_desk.proofs.reporting.stopped.Goals as goal

pub returns : goal.returns
returns g c = (refl, told_first c.args.asked c.args.cause c.silent.result.is_whole c.tell_cause-told.result.is_whole (g.E.Write.contents c.args.faults.now) (g.E.Write.contents c.tell_cause-told.new.faults) c.silent.ensures c.tell_cause-told.ensures)
