use Rattle.std.proofs.Common.{◌≡◌, Some, false, length, refl, subst, sym, true}
use Rattle.std.specs.Prelude.{Ok, Err}
use Rattle.desk_caster.specs.Reading.{IsRibbon}
use Rattle.feed_check.specs.Lines.{SaysRibbon}
use Rattle.feed_check.specs.Words.{ribbon_words, rows_words}
use Rattle.feed_check.proofs.Said.{no_words, said, said_words}
use Rattle.feed_check.proofs.ribbons.ribbon_reported.Goals as goal

pub returns-in-Ok : goal.returns-in-Ok
returns-in-Ok g c =
    let rows = c.deref.result.now in
    let ribbon = subst (IsRibbon c.args.bytes.now) (sym c.deref.ensures.value) c.in-Ok.ensures.ribbon in
    said c.rows_reported.result (rows_words (length rows)) true (SaysRibbon c.args.bytes.now) (Ok rows, ribbon, refl, refl) c.rows_reported.ensures.text c.rows_reported.ensures.well

pub returns-in-Err : goal.returns-in-Err
returns-in-Err g c =
    let fault = c.in-Err.fault in
    said_words c.ribbon_refused.result (ribbon_words (Err fault)) false (SaysRibbon c.args.bytes.now) (λ l is. (Err fault, (c.in-Err.ensures.fault, (λ e. no_words (subst (λ f. ribbon_words (Err f) ≡ Some l) e is))), is, refl))
    c.ribbon_refused.ensures.text c.ribbon_refused.ensures.well
