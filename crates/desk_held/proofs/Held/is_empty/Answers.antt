use Rattle.std.proofs.Common.{rules}
use Rattle.desk_held.proofs.Held.is_empty.Goals as goal

pub returns : goal.returns
returns g c = search rules steps 300000
