use Rattle.view_punch.proofs.Standing.{all_places}
use Rattle.view_punch.proofs.sorts_laws.places_are_all.Goals as goal

pub returns : goal.returns
returns c = all_places
