use Rattle.std.proofs.Common.{◌≡◌, subst, true, false}
use Rattle.program_desk.specs.Causes.{comparison_cause}
use Rattle.program_desk.specs.Explained.{IsSilent, Reports}
use Rattle.program_desk.proofs.Statuses.{said_in}
use Rattle.program_desk.proofs.compared.comparison_ending.Goals as goal

pub returns-in-Err : goal.returns-in-Err
returns-in-Err g c = said_in (λ yes. (yes ≡ true → c.reported.result.status ≡ 0) × (yes ≡ false → c.reported.result.status ≡ 1) × IsSilent c.reported.result.told.is_whole (g.E.Write.contents c.args.faults.now) (g.E.Write.contents c.reported.new.faults))
    (λ fault. (c.reported.result.status ≡ 1) × Reports (comparison_cause c.args.pair.now fault) c.reported.result.told.is_whole (g.E.Write.contents c.args.faults.now) (g.E.Write.contents c.reported.new.faults)) c.args.outcome c.in-Err.fault c.in-Err.is
    (c.reported.ensures.0, subst (λ cause. Reports cause c.reported.result.told.is_whole (g.E.Write.contents c.args.faults.now) (g.E.Write.contents c.reported.new.faults)) c.comparison_cause-cause.ensures c.reported.ensures.1)
