use Rattle.desk_signals.proofs.RowLaws.{signals_have_one_row}
use Rattle.desk_signals.proofs.laws.signals_have_one_row.Goals as goal

pub returns : goal.returns
returns c = signals_have_one_row
