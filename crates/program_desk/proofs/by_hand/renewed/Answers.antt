use Rattle.program_desk.proofs.Statuses.{ended_of, stop_of}
use Rattle.program_desk.proofs.by_hand.renewed.Goals as goal

pub returns-clause-done : goal.returns-clause-done
returns-clause-done g c zero = ended_of c.renew_feed-outcome.result _ c.renew_ending.result.status c.renew_ending.ensures c.renew_feed-outcome.ensures.ok zero

pub returns-clause-stopped : goal.returns-clause-stopped
returns-clause-stopped g c one = stop_of c.renew_feed-outcome.result _ _ c.renew_ending.result.status c.renew_ending.ensures c.renew_feed-outcome.ensures.err one
