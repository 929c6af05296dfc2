use Rattle.desk_caster.proofs.Running.{IsCast}
use Rattle.desk_caster.proofs.caster.cast.Given as goal

abbrev pub invariant-rows : goal.invariant-rows
invariant-rows g l = IsCast l.case l.wedge l.rows l.place l.caster

abbrev pub decreases-rows : goal.decreases-rows
decreases-rows g l = l.place
