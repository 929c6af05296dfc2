use Rattle.desk_image.proofs.ImageLaws.{images_are_one_to_one}
use Rattle.desk_image.proofs.laws.images_are_one_to_one.Goals as goal

pub returns : goal.returns
returns c = images_are_one_to_one
