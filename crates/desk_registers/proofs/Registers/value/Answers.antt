use Rattle.std.proofs.Common.{rules}
use Rattle.desk_registers.proofs.Registers.value.Goals as goal

pub returns : goal.returns
returns c = search rules steps 300000
