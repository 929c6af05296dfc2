use Rattle.program_desk.proofs.Statuses.{ended_of, stop_of}
use Rattle.program_desk.proofs.by_hand.imported.Goals as goal

pub returns-clause-done : goal.returns-clause-done
returns-clause-done g c zero = ended_of c.import_text-outcome.result _ c.import_ending.result.status c.import_ending.ensures c.import_text-outcome.ensures.ok zero

pub returns-clause-stopped : goal.returns-clause-stopped
returns-clause-stopped g c one = stop_of c.import_text-outcome.result _ _ c.import_ending.result.status c.import_ending.ensures c.import_text-outcome.ensures.err one
