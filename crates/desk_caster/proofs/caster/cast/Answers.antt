use Rattle.std.proofs.Common.{◌-◌, ap, arith}
use Rattle.std.specs.Prelude.{Err}
use Rattle.std.proofs.lemmas.Result.{err_from_is_err_and}
use Rattle.desk_caster.proofs.Running.{grows, kept, stopped}
use Rattle.desk_caster.proofs.caster.cast.Goals as goal

pub returns-in_err-caster-clause-err : goal.returns-in_err-caster-clause-err
returns-in_err-caster-clause-err g c =
    let p = err_from_is_err_and c.from_residual.result c.from_residual.ensures.1 in
    rw p.1 (rw p.2 (λ n. stopped c.args.case.now c.args.wedge.now c.args.rows.now c.rows.place (c.rows.place - 1) c.index-rows-place.result c.rows.caster c.in_err-caster.field-0.0 c.rows.invariant (omega arith) c.index-rows-place.is (c.in_err-caster.ensures.err n)))

pub returns-in_err-caster-clause-memory : goal.returns-in_err-caster-clause-memory
returns-in_err-caster-clause-memory g c =
    let p = err_from_is_err_and c.from_residual.result c.from_residual.ensures.1 in
    grows c.args.case.now c.args.wedge.now c.args.rows.now c.rows.place (c.rows.place - 1) c.index-rows-place.result c.rows.caster _ _ c.in_err-caster.field-0.0 _ c.rows.invariant (omega arith) c.index-rows-place.is
    (λ same. c.in_err-caster.ensures.memory (ap Err same)) p.1 p.2

pub rows-preserved : goal.rows-preserved
rows-preserved g c =
    kept c.args.case.now c.args.wedge.now c.args.rows.now c.rows.place (c.rows.place - 1) c.index-rows-place.result c.rows.caster c.in_ok-caster.caster c.rows.invariant (omega arith) c.index-rows-place.is c.in_ok-caster.ensures.ok
