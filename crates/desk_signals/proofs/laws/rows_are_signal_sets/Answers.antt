use Rattle.desk_signals.proofs.RowLaws.{rows_are_signal_sets}
use Rattle.desk_signals.proofs.laws.rows_are_signal_sets.Goals as goal

pub returns : goal.returns
returns c = rows_are_signal_sets
