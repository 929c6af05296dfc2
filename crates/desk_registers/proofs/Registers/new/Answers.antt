use Rattle.std.proofs.Common.{rules}
use Rattle.desk_registers.proofs.Registers.new.Goals as goal

pub returns : goal.returns
returns c = search rules steps 300000
