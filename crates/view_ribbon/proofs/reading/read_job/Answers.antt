use Rattle.std.proofs.Common.{inl, inr, refl, subst}
use Rattle.std.proofs.lemmas.Result.{err_from_is_err_and}
use Rattle.std.specs.Io.KnownBytes.{Appends}
use Rattle.std.specs.Prelude.{string_bytes}
use Rattle.feed_stored.specs.Sending.{WritesPrefix}
use Rattle.view_ribbon.specs.Reported.{IsReported}
use Rattle.view_ribbon.proofs.reading.read_job.Goals as goal

pub returns-in_err-bytes-clause-err : goal.returns-in_err-bytes-clause-err
returns-in_err-bytes-clause-err g c =
    let p = err_from_is_err_and c.from_residual.result c.from_residual.ensures.1 in
    rw p.1 (inl (refl, c.in_err-bytes.field-0.0, p.2, c.in_err-bytes.ensures.err))

pub returns-in_err-text-clause-err : goal.returns-in_err-text-clause-err
returns-in_err-text-clause-err g c =
    let t = c.in_ok-bytes in
    let p = err_from_is_err_and c.from_residual-in_err-text.result c.from_residual-in_err-text.ensures.1 in
    rw p.1 (inr (inl (refl, p.2, t.ensures.still, (t.bytes.items, t.case, t.wedge, t.ensures.ok))))

pub returns-in_err-write_out-clause-err : goal.returns-in_err-write_out-clause-err
returns-in_err-write_out-clause-err g c =
    let t = c.in_ok-bytes in
    let text = string_bytes c.in_ok-text.text in
    let prefix = subst (λ l. WritesPrefix (g.W.Write.contents c.args.writer.now) (g.W.Write.contents c.write_out.new.writer) l) c.as_bytes.ensures.value c.in_err-write_out.ensures.err in
    let p = err_from_is_err_and c.from_residual-in_err-write_out.result c.from_residual-in_err-write_out.ensures.1 in
    rw p.1 (inr (inr (p.2, t.ensures.still, text, c.in_ok-text.whole, (t.bytes.items, t.case, t.wedge, t.ensures.ok, subst (λ l. IsReported l t.case t.wedge c.args.extent text c.in_ok-text.whole) c.deref.ensures.value c.in_ok-text.ensures), prefix)))

pub returns-clause-ok : goal.returns-clause-ok
returns-clause-ok g c =
    let t = c.in_ok-bytes in
    let text = string_bytes c.in_ok-text.text in
    let written = subst (λ l. Appends (g.W.Write.contents c.args.writer.now) (g.W.Write.contents c.write_out.new.writer) l) c.as_bytes.ensures.value c.in_ok-write_out.ensures.ok in
    (text, (t.bytes.items, t.case, t.wedge, t.ensures.ok, subst (λ l. IsReported l t.case t.wedge c.args.extent text c.in_ok-text.whole) c.deref.ensures.value c.in_ok-text.ensures), written)
