use Rattle.std.proofs.Common.{◌≤◌, refl, subst}
use Rattle.std.proofs.lemmas.Result.{err_from_is_err_and}
use Rattle.desk_ops.specs.OpSet.{max_ops}
use Rattle.script_world.proofs.world.gain.Goals as goal

pub returns-in_err-given-clause-ops : goal.returns-in_err-given-clause-ops
returns-in_err-given-clause-ops g c =
    let p = err_from_is_err_and c.from_residual.result c.from_residual.ensures.1 in
    rw p.1 (rw p.2 (c.in_err-given.field-0.0, refl, c.in_err-given.ensures.stopped, subst (λ n. n ≤ max_ops) c.len-held.ensures.value c.len-held.ensures.within))
