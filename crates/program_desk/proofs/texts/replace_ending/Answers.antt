use Rattle.std.proofs.Common.{◌≡◌, subst}
use Rattle.program_desk.specs.Causes.{replace_cause}
use Rattle.program_desk.specs.Explained.{Reports}
use Rattle.program_desk.proofs.Statuses.{said_in}
use Rattle.program_desk.proofs.texts.replace_ending.Goals as goal

pub returns-in-Err : goal.returns-in-Err
returns-in-Err g c = said_in (λ _. c.reported.result.status ≡ 0)
    (λ fault. (c.reported.result.status ≡ 1) × Reports (replace_cause c.args.feed c.args.site fault) c.reported.result.told.is_whole (g.E.Write.contents c.args.faults.now) (g.E.Write.contents c.reported.new.faults)) c.args.outcome c.in-Err.fault c.in-Err.is
    (c.reported.ensures.0, subst (λ cause. Reports cause c.reported.result.told.is_whole (g.E.Write.contents c.args.faults.now) (g.E.Write.contents c.reported.new.faults)) c.replace_cause.ensures c.reported.ensures.1)
