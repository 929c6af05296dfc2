use Rattle.std.proofs.Common.{rules}
use Rattle.desk_walk.proofs.room.Room.spare.Goals as goal

pub returns : goal.returns
returns g c = search rules steps 300000
