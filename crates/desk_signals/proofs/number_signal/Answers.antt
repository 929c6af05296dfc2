use Rattle.std.proofs.Common.{arith}
use Rattle.desk_signals.proofs.Numbers.{no_number}
use Rattle.desk_signals.proofs.number_signal.Goals as goal

pub returns-in_default : goal.returns-in_default
returns-in_default c = no_number c.args.n (omega arith)
