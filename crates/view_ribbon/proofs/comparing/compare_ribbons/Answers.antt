use Rattle.std.proofs.Common.{inr, subst}
use Rattle.std.proofs.lemmas.Result.{err_from_is_err_and}
use Rattle.std.specs.Io.KnownBytes.{Appends}
use Rattle.std.specs.Prelude.{string_bytes}
use Rattle.feed_stored.specs.Sending.{WritesPrefix}
use Rattle.view_ribbon.specs.Comparing.{IsCompared}
use Rattle.view_ribbon.proofs.comparing.compare_ribbons.Goals as goal

pub returns-in_err-write_out-clause-err : goal.returns-in_err-write_out-clause-err
returns-in_err-write_out-clause-err g c =
    let t = c.in_ok-one in
    let pair = c.args.pair.now in
    let text = string_bytes c.in_ok-text.text in
    let alike = c.in_ok-text.alike in
    let prefix = subst (λ l. WritesPrefix (g.W.Write.contents c.args.writer.now) (g.W.Write.contents c.write_out.new.writer) l) c.as_bytes.ensures.value c.in_err-write_out.ensures.err in
    let compared = subst (λ l. IsCompared pair.one.now pair.other.now t.one.items l t.case t.wedge text alike) c.deref-2.ensures.value
    (subst (λ l. IsCompared pair.one.now pair.other.now l c.deref-2.result.now t.case t.wedge text alike) c.deref.ensures.value c.in_ok-text.ensures) in
    let p = err_from_is_err_and c.from_residual-in_err-write_out.result c.from_residual-in_err-write_out.ensures.1 in
    rw p.1 (inr (inr (p.2, t.ensures.still, text, alike, (t.one.items, t.other.items, t.case, t.wedge, t.ensures.ok, compared), prefix)))

pub returns-clause-ok : goal.returns-clause-ok
returns-clause-ok g c =
    let t = c.in_ok-one in
    let pair = c.args.pair.now in
    let text = string_bytes c.in_ok-text.text in
    let alike = c.in_ok-text.alike in
    let written = subst (λ l. Appends (g.W.Write.contents c.args.writer.now) (g.W.Write.contents c.write_out.new.writer) l) c.as_bytes.ensures.value c.in_ok-write_out.ensures.ok in
    let compared = subst (λ l. IsCompared pair.one.now pair.other.now t.one.items l t.case t.wedge text alike) c.deref-2.ensures.value
    (subst (λ l. IsCompared pair.one.now pair.other.now l c.deref-2.result.now t.case t.wedge text alike) c.deref.ensures.value c.in_ok-text.ensures) in
    (text, (t.one.items, t.other.items, t.case, t.wedge, t.ensures.ok, compared), written)
