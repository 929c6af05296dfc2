use Rattle.std.proofs.Common.{◌<◌, refl, ap, subst, ◌∙◌}
use Rattle.std.proofs.lemmas.Result.{err_from_is_err_and}
use Rattle.desk_ops.specs.OpSet.{no_ops, with_all, size, max_ops}
use Rattle.desk_ops.proofs.Unions.{with_all-in_order}
use Rattle.script_world.proofs.Kept.{only_full}
use Rattle.script_world.proofs.world.reopen.Goals as goal

pub returns-clause-ops : goal.returns-clause-ops
returns-clause-ops g c = c.in_ok-anew.ensures.ops ∙ ap (with_all no_ops) (c.deref.ensures.value ∙ c.in-Ok.ensures.items) ∙ with_all-in_order c.args.replica.now.ops

pub returns-in_err-anew-clause-answer : goal.returns-in_err-anew-clause-answer
returns-in_err-anew-clause-answer g c =
    let stop = c.in_err-anew.field-0.0 in
    let p = err_from_is_err_and c.from_residual.result c.from_residual.ensures.1 in
    rw p.1 (rw p.2 (stop, refl, c.in_err-anew.ensures.none, only_full c.args.replica.now.ops stop (λ is. subst (λ l. max_ops < size (with_all no_ops l)) (c.deref.ensures.value ∙ c.in-Ok.ensures.items) (c.in_err-anew.ensures.full is))))
