use Rattle.program_desk.proofs.Statuses.{ended_of, stop_of}
use Rattle.program_desk.proofs.texts.replaced.Goals as goal

pub returns-clause-done : goal.returns-clause-done
returns-clause-done g c zero = ended_of c.replace_text-outcome.result _ c.replace_ending.result.status c.replace_ending.ensures c.replace_text-outcome.ensures.ok zero

pub returns-clause-stopped : goal.returns-clause-stopped
returns-clause-stopped g c one = stop_of c.replace_text-outcome.result _ _ c.replace_ending.result.status c.replace_ending.ensures c.replace_text-outcome.ensures.err one
