use Rattle.desk_image.proofs.ImageLaws.{rows_have_lawful_images}
use Rattle.desk_image.proofs.laws.rows_have_lawful_images.Goals as goal

pub returns : goal.returns
returns c = rows_have_lawful_images
