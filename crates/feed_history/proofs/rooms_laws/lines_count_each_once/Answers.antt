use Rattle.feed_history.proofs.RoomsSums.{sums_are}
use Rattle.feed_history.proofs.rooms_laws.lines_count_each_once.Goals as goal

pub returns : goal.returns
returns c = sums_are
