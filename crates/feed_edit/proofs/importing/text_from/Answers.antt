use Rattle.std.proofs.Common.{◌∙◌, ap, subst, sym}
use Rattle.std.proofs.lemmas.Result.{err_from_is_err_and}
use Rattle.text_copy.specs.Reading.{Fails, reading}
use Rattle.feed_edit.proofs.Reading.{no_input, no_text}
use Rattle.feed_edit.proofs.importing.text_from.Goals as goal

pub returns-in_err-bytes-clause-err : goal.returns-in_err-bytes-clause-err
returns-in_err-bytes-clause-err g c =
    let p = err_from_is_err_and c.from_residual.result c.from_residual.ensures.1 in
    rw p.1 (rw p.2 (no_input c.args.plain (g.R.Read.remaining c.args.reader.now) _ c.in_err-bytes.ensures.err))

pub returns-in_err-read_text-clause-err : goal.returns-in_err-read_text-clause-err
returns-in_err-read_text-clause-err g c =
    let p = err_from_is_err_and c.from_residual-in_err-read_text.result c.from_residual-in_err-read_text.ensures.1 in
    let fails = subst (λ b. Fails c.in_err-read_text.field-0.0 (reading c.args.plain b)) c.deref.ensures.value c.in_err-read_text.ensures.text in
    rw p.1 (rw p.2 (no_text c.args.plain (g.R.Read.remaining c.args.reader.now) c.in_ok-bytes.bytes.items _ (c.in_ok-bytes.ensures.within, c.in_ok-bytes.ensures.ok) fails))

pub returns-clause-ok : goal.returns-clause-ok
returns-clause-ok g c = (c.in_ok-bytes.bytes.items, (c.in_ok-bytes.ensures.within, c.in_ok-bytes.ensures.ok), ap (reading c.args.plain) (sym c.deref.ensures.value) ∙ c.in_ok-read_text.ensures.text)
