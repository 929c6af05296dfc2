use Rattle.feed_history.proofs.RoomsSpans.{spans_are}
use Rattle.feed_history.proofs.rooms_laws.spans_are_between.Goals as goal

pub returns : goal.returns
returns c = spans_are
