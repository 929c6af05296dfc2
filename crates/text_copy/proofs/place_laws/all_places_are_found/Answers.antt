use Rattle.text_copy.proofs.Finding.{all_places}
use Rattle.text_copy.proofs.place_laws.all_places_are_found.Goals as goal

pub returns : goal.returns
returns c = all_places
