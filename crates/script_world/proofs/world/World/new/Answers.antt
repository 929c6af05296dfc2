use Rattle.std.proofs.Common.{sym, subst}
use Rattle.script_world.specs.Sites.{sites_of, IsKept}
use Rattle.script_world.specs.Honest.{IsHonest}
use Rattle.script_world.proofs.Kept.{nothing_kept}
use Rattle.script_world.proofs.Stays.{honest_none}
use Rattle.script_world.proofs.world.World.new.Goals as goal

pub invariant_of-result : goal.invariant_of-result
invariant_of-result g c = subst IsKept (sym c.new.ensures.empty) nothing_kept

pub returns-clause-honest : goal.returns-clause-honest
returns-clause-honest g c = subst (λ es. IsHonest (sites_of es)) (sym c.new.ensures.empty) honest_none
