use Rattle.std.proofs.Common.{List, ℕ, inr, subst}
use Rattle.std.proofs.lemmas.Result.{err_from_is_err_and}
use Rattle.std.specs.Io.KnownBytes.{Appends}
use Rattle.std.specs.Prelude.{string_bytes}
use Rattle.feed_stored.specs.Sending.{WritesPrefix}
use Rattle.view_preview.specs.Proofing.{IsReported}
use Rattle.view_preview.proofs.proofing.proof_job.Goals as goal

pub returns-in_err-write_out-clause-err : goal.returns-in_err-write_out-clause-err
returns-in_err-write_out-clause-err g c =
    let t = c.in_ok-matter in
    let text = string_bytes c.in_ok-text.text in
    let said = subst (λ (n : List ℕ). IsReported n t.matter c.args.trial.now c.args.manner text c.in_ok-text.clean) c.name_of-name.ensures c.in_ok-text.ensures in
    let prefix = subst (λ l. WritesPrefix (g.W.Write.contents c.args.writer.now) (g.W.Write.contents c.write_out.new.writer) l) c.as_bytes.ensures.value c.in_err-write_out.ensures.err in
    let p = err_from_is_err_and c.from_residual-in_err-write_out.result c.from_residual-in_err-write_out.ensures.1 in
    rw p.1 (inr (inr (p.2, t.ensures.still, text, c.in_ok-text.clean, (t.matter, t.ensures.ok, said), prefix)))

pub returns-clause-ok : goal.returns-clause-ok
returns-clause-ok g c =
    let t = c.in_ok-matter in
    let text = string_bytes c.in_ok-text.text in
    let said = subst (λ (n : List ℕ). IsReported n t.matter c.args.trial.now c.args.manner text c.in_ok-text.clean) c.name_of-name.ensures c.in_ok-text.ensures in
    let written = subst (λ l. Appends (g.W.Write.contents c.args.writer.now) (g.W.Write.contents c.write_out.new.writer) l) c.as_bytes.ensures.value c.in_ok-write_out.ensures.ok in
    (text, (t.matter, t.ensures.ok, said), written)
