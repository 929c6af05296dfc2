use Rattle.desk_case.proofs.Descents.{law}
use Rattle.desk_case.proofs.laws.descent_is_of_all_pairs.Goals as goal

pub returns : goal.returns
returns c = law
