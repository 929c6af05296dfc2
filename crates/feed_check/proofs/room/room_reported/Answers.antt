use Rattle.feed_check.proofs.room.room_reported.Goals as goal

pub returns : goal.returns
returns g c = (c.in_ok-room.room, c.in_ok-room.ensures, c.in_ok-reported.ensures)
