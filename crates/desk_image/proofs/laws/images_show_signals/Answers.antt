use Rattle.desk_image.proofs.ImageLaws.{images_show_signals}
use Rattle.desk_image.proofs.laws.images_show_signals.Goals as goal

pub returns : goal.returns
returns c = images_show_signals
