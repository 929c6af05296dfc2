use Rattle.program_desk.proofs.Explaining.{told_more}
use Rattle.program_desk.proofs.explained.tell_cause.Goals as goal

pub returns : goal.returns
returns g c = told_more c.args.asked c.args.cause c.args.told.is_whole c.tell_head-begun.result.is_whole c.explain_if.result.is_whole (g.E.Write.contents c.args.faults.now) (g.E.Write.contents c.tell_head-begun.new.faults) (g.E.Write.contents c.explain_if.new.faults) c.tell_head-begun.ensures c.explain_if.ensures
