use Rattle.program_desk.proofs.Merged.{merged_as, not_merged}
use Rattle.program_desk.proofs.by_hand.merged.Goals as goal

pub returns-clause-done : goal.returns-clause-done
returns-clause-done g c zero = merged_as c.args.merge.review c.merge_feeds-outcome.result _ _ _ c.merge_ending.result.status c.merge_ending.ensures c.merge_feeds-outcome.ensures.ok zero

pub returns-clause-stopped : goal.returns-clause-stopped
returns-clause-stopped g c one = not_merged c.args.merge.review c.merge_feeds-outcome.result _ _ _ _ c.merge_ending.result.status c.merge_ending.ensures c.merge_feeds-outcome.ensures.ok c.merge_feeds-outcome.ensures.err one
