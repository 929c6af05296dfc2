use Rattle.std.proofs.Common.{refl}
use Rattle.view_preview.proofs.look_laws.worked_looks.Goals as goal

pub returns : goal.returns
returns c = record { hyphen = refl; spaces = refl; point = refl; quote = refl; repeated = refl; lines = refl }
