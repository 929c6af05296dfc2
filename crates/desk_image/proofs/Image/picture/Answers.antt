use Rattle.desk_image.proofs.Bits.{no_hole_yet}
use Rattle.desk_image.proofs.Image.picture.Goals as goal

pub loop-place-init : goal.loop-place-init
loop-place-init c = λ k below. no_hole_yet k _ below
