use Rattle.desk_image.proofs.ImageLaws.{signals_have_one_image}
use Rattle.desk_image.proofs.laws.signals_have_one_image.Goals as goal

pub returns : goal.returns
returns c = signals_have_one_image
