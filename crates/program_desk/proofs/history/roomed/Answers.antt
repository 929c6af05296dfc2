use Rattle.program_desk.proofs.Statuses.{ended_of, stop_of}
use Rattle.program_desk.proofs.history.roomed.Goals as goal

pub returns-clause-done : goal.returns-clause-done
returns-clause-done g c zero = (c.report_rooms-outcome.ensures.stays, ended_of c.report_rooms-outcome.result _ c.export_ending.result.status c.export_ending.ensures c.report_rooms-outcome.ensures.ok zero)

pub returns-clause-stopped : goal.returns-clause-stopped
returns-clause-stopped g c one =
    let why = stop_of c.report_rooms-outcome.result _ _ c.export_ending.result.status c.export_ending.ensures c.report_rooms-outcome.ensures.err one in
    (c.report_rooms-outcome.ensures.stays, why.0, why.1, why.2)
