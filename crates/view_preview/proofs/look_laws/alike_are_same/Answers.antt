use Rattle.view_preview.proofs.Steps.{alike_decides}
use Rattle.view_preview.proofs.look_laws.alike_are_same.Goals as goal

pub returns : goal.returns
returns c = alike_decides
