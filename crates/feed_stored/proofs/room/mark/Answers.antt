use Rattle.feed_stored.proofs.Rooms.{either}
use Rattle.feed_stored.proofs.room.mark.Goals as goal

pub returns-clause-marked : goal.returns-clause-marked
returns-clause-marked g c = either c.note_last.result c.note_last.ensures.ok c.note_last.ensures.err
