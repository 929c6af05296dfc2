use Rattle.desk_wedge.proofs.Descents.{law}
use Rattle.desk_wedge.proofs.laws.descent_is_first_fall.Goals as goal

pub returns : goal.returns
returns c = law
