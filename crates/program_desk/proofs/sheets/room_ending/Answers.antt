use Rattle.std.proofs.Common.{◌≡◌, subst}
use Rattle.std.specs.Prelude.{◌||◌}
use Rattle.program_desk.specs.Causes.{room_cause}
use Rattle.program_desk.specs.Explained.{TellsOf}
use Rattle.program_desk.specs.Sheets.{is_older}
use Rattle.program_desk.proofs.Statuses.{said_in}
use Rattle.program_desk.proofs.sheets.room_ending.Goals as goal

pub returns-in-Err : goal.returns-in-Err
returns-in-Err g c = said_in (λ _. c.stopped.result.status ≡ 0)
    (λ fault. (c.stopped.result.status ≡ 1) × TellsOf (c.args.why || is_older fault) (room_cause c.args.room.feed c.args.room.site fault) c.stopped.result.told.is_whole (g.E.Write.contents c.args.faults.now) (g.E.Write.contents c.stopped.new.faults)) c.args.outcome c.in-Err.fault c.in-Err.is (
      c.stopped.ensures.0,
      subst (λ cause. TellsOf (c.args.why || is_older c.in-Err.fault) cause c.stopped.result.told.is_whole (g.E.Write.contents c.args.faults.now) (g.E.Write.contents c.stopped.new.faults)) c.room_cause.ensures
          (subst (λ asked. TellsOf asked c.room_cause.result c.stopped.result.told.is_whole (g.E.Write.contents c.args.faults.now) (g.E.Write.contents c.stopped.new.faults)) c.is_explained-asked.ensures c.stopped.ensures.1),
    )
