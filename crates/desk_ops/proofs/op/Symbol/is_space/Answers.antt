use Rattle.std.proofs.Common.{rules}
use Rattle.desk_ops.proofs.op.Symbol.is_space.Goals as goal

pub returns : goal.returns
returns c = search rules steps 300000
