use Rattle.view_preview.proofs.Placed.{each_has_place}
use Rattle.view_preview.proofs.place_laws.each_symbol_has_a_place.Goals as goal

pub returns : goal.returns
returns c = each_has_place
