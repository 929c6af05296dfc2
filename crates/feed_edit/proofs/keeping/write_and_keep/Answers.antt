use Rattle.std.proofs.Common.{refl}
use Rattle.std.proofs.lemmas.Result.{err_from_is_err_and}
use Rattle.feed_edit.proofs.keeping.write_and_keep.Goals as goal

pub returns-in_err-write_out-clause-err : goal.returns-in_err-write_out-clause-err
returns-in_err-write_out-clause-err g c =
    let p = err_from_is_err_and c.from_residual.result c.from_residual.ensures.1 in
    rw p.1 (rw p.2 (refl, c.in_err-write_out.ensures.err))

pub returns-in_err-keep_replica-clause-err : goal.returns-in_err-keep_replica-clause-err
returns-in_err-keep_replica-clause-err g c =
    let p = err_from_is_err_and c.from_residual-in_err-keep_replica.result c.from_residual-in_err-keep_replica.ensures.1 in
    rw p.1 (rw p.2 (c.in_ok-write_out.ensures.ok, c.in_err-keep_replica.ensures.err))
