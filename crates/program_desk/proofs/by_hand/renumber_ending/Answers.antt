use Rattle.std.proofs.Common.{◌≡◌, subst, true}
use Rattle.program_desk.specs.Causes.{renumber_cause}
use Rattle.program_desk.specs.Explained.{TellsOf}
use Rattle.program_desk.proofs.Statuses.{said_in}
use Rattle.program_desk.proofs.by_hand.renumber_ending.Goals as goal

pub returns-in-Err : goal.returns-in-Err
returns-in-Err g c = said_in (λ _. c.stopped.result.status ≡ 0)
    (λ fault. (c.stopped.result.status ≡ 1) × TellsOf true (renumber_cause c.args.asked.feed c.args.asked.other c.args.asked.site fault) c.stopped.result.told.is_whole (g.E.Write.contents c.args.faults.now) (g.E.Write.contents c.stopped.new.faults)) c.args.outcome c.in-Err.fault c.in-Err.is
    (c.stopped.ensures.0, subst (λ cause. TellsOf true cause c.stopped.result.told.is_whole (g.E.Write.contents c.args.faults.now) (g.E.Write.contents c.stopped.new.faults)) c.renumber_cause-cause.ensures c.stopped.ensures.1)
