use Rattle.feed_history.proofs.RoomsSpans.{lines_are}
use Rattle.feed_history.proofs.rooms_laws.lines_are_of_these.Goals as goal

pub returns : goal.returns
returns c = lines_are
