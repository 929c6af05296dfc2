use Rattle.program_desk.proofs.Statuses.{ended_of, stop_of}
use Rattle.program_desk.proofs.by_hand.renumbered.Goals as goal

pub returns-clause-done : goal.returns-clause-done
returns-clause-done g c zero = ended_of c.renumber_feed-outcome.result _ c.renumber_ending.result.status c.renumber_ending.ensures c.renumber_feed-outcome.ensures.ok zero

pub returns-clause-stopped : goal.returns-clause-stopped
returns-clause-stopped g c one = stop_of c.renumber_feed-outcome.result _ _ c.renumber_ending.result.status c.renumber_ending.ensures c.renumber_feed-outcome.ensures.err one
