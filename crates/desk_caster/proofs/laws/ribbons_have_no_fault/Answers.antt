use Rattle.desk_caster.proofs.Ribbons as law
use Rattle.desk_caster.proofs.laws.ribbons_have_no_fault.Goals as goal

pub returns : goal.returns
returns c = law.ribbons_have_no_fault
