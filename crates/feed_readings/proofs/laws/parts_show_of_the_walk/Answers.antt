use Rattle.feed_readings.proofs.Closed.{parts_show}
use Rattle.feed_readings.proofs.laws.parts_show_of_the_walk.Goals as goal

pub returns : goal.returns
returns c = parts_show
