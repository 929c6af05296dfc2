use Rattle.std.proofs.Common.{◌∙◌, refl, subst}
use Rattle.std.proofs.lemmas.Result.{err_from_is_err_and}
use Rattle.std.specs.Io.KnownBytes.{Appends}
use Rattle.feed_stored.specs.Sending.{WritesPrefix}
use Rattle.view_punch.proofs.job_line.report_job.Goals as goal

pub returns-in_err-reported-clause-err : goal.returns-in_err-reported-clause-err
returns-in_err-reported-clause-err g c = let p = err_from_is_err_and c.from_residual.result c.from_residual.ensures.1 in rw p.1 (rw p.2 refl)

pub returns-in_err-write_out-clause-err : goal.returns-in_err-write_out-clause-err
returns-in_err-write_out-clause-err g c =
    let prefix = subst (λ l. WritesPrefix (g.W.Write.contents c.args.writer.now) (g.W.Write.contents c.write_out.new.writer) l) (c.as_bytes.ensures.value ∙ c.in_ok-reported.ensures) c.in_err-write_out.ensures.err in
    let p = err_from_is_err_and c.from_residual-in_err-write_out.result c.from_residual-in_err-write_out.ensures.1 in
    rw p.1 (rw p.2 prefix)

pub returns-clause-ok : goal.returns-clause-ok
returns-clause-ok g c = subst (λ l. Appends (g.W.Write.contents c.args.writer.now) (g.W.Write.contents c.write_out.new.writer) l) (c.as_bytes.ensures.value ∙ c.in_ok-reported.ensures) c.in_ok-write_out.ensures.ok
