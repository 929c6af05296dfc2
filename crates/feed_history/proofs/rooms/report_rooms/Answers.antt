use Rattle.std.proofs.Common.{◌∙◌, refl, subst}
use Rattle.std.specs.Io.KnownBytes.{Appends}
use Rattle.std.proofs.lemmas.Result.{err_from_is_err_and}
use Rattle.feed_stored.specs.Sending.{WritesPrefix}
use Rattle.feed_history.proofs.rooms.report_rooms.Goals as goal

pub returns-in_err-replica-clause-err : goal.returns-in_err-replica-clause-err
returns-in_err-replica-clause-err g c =
    let p = err_from_is_err_and c.from_residual.result c.from_residual.ensures.1 in
    rw p.1 (rw p.2 (refl, c.in_err-replica.ensures.err))

pub returns-in_err-text-clause-err : goal.returns-in_err-text-clause-err
returns-in_err-text-clause-err g c =
    let p = err_from_is_err_and c.from_residual-in_err-text.result c.from_residual-in_err-text.ensures.1 in
    rw p.1 (rw p.2 (refl, c.in_ok-replica.replica.ops, c.in_ok-replica.ensures.ok, c.in_ok-replica.ensures.counted))

pub returns-in_err-write_out-clause-err : goal.returns-in_err-write_out-clause-err
returns-in_err-write_out-clause-err g c =
    let p = err_from_is_err_and c.from_residual-in_err-write_out.result c.from_residual-in_err-write_out.ensures.1 in
    let prefix = subst (λ t. WritesPrefix (g.W.Write.contents c.args.writer.now) (g.W.Write.contents c.write_out.new.writer) t) (c.as_bytes.ensures.value ∙ c.in_ok-text.ensures) c.in_err-write_out.ensures.err in
    rw p.1 (rw p.2 (c.in_ok-replica.replica.ops, c.in_ok-replica.ensures.ok, prefix, c.in_ok-replica.ensures.counted))

pub returns-clause-ok : goal.returns-clause-ok
returns-clause-ok g c =
    let written = subst (λ t. Appends (g.W.Write.contents c.args.writer.now) (g.W.Write.contents c.write_out.new.writer) t) (c.as_bytes.ensures.value ∙ c.in_ok-text.ensures) c.in_ok-write_out.ensures.ok in
    (c.in_ok-replica.replica.ops, c.in_ok-replica.ensures.ok, written)
