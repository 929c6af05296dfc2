use Rattle.feed_stored.proofs.Counters.{greatest_reached, greatest_within}
use Rattle.feed_stored.proofs.laws.greatest_is_reached.Goals as goal

pub returns : goal.returns
returns c = record { within = greatest_within; reached = greatest_reached }
