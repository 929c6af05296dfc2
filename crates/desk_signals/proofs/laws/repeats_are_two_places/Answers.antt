use Rattle.desk_signals.proofs.RowLaws.{repeats_are_two_places}
use Rattle.desk_signals.proofs.laws.repeats_are_two_places.Goals as goal

pub returns : goal.returns
returns c = repeats_are_two_places
