use Rattle.feed_history.proofs.Parts.{parts}
use Rattle.feed_history.proofs.log_laws.corrections_part_sets.Goals as goal

pub returns : goal.returns
returns c = parts
