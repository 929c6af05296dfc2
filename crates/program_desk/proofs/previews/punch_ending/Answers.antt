use Rattle.std.proofs.Common.{◌≡◌, subst}
use Rattle.program_desk.specs.Causes.{punch_cause}
use Rattle.program_desk.specs.Explained.{Reports}
use Rattle.program_desk.proofs.Statuses.{said_in}
use Rattle.program_desk.proofs.previews.punch_ending.Goals as goal

pub returns-in-Err : goal.returns-in-Err
returns-in-Err g c = said_in (λ _. c.reported.result.status ≡ 0)
    (λ stop. (c.reported.result.status ≡ 1) × Reports (punch_cause c.args.from.now c.args.target stop) c.reported.result.told.is_whole (g.E.Write.contents c.args.faults.now) (g.E.Write.contents c.reported.new.faults)) c.args.outcome c.in-Err.stop c.in-Err.is
    (c.reported.ensures.0, subst (λ cause. Reports cause c.reported.result.told.is_whole (g.E.Write.contents c.args.faults.now) (g.E.Write.contents c.reported.new.faults)) c.punch_cause.ensures c.reported.ensures.1)
