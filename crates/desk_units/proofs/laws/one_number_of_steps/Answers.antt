use Rattle.desk_units.proofs.StepLaws.{one_number_of_steps}
use Rattle.desk_units.proofs.laws.one_number_of_steps.Goals as goal

pub returns : goal.returns
returns c = one_number_of_steps
