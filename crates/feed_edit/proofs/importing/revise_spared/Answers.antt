use Rattle.std.proofs.Common.{◌∙◌, sym}
use Rattle.std.proofs.lemmas.Result.{err_from_is_err_and}
use Rattle.feed_edit.proofs.importing.revise_spared.Goals as goal

pub returns-in_err-tally-clause-err : goal.returns-in_err-tally-clause-err
returns-in_err-tally-clause-err g c =
    let p = err_from_is_err_and c.from_residual.result c.from_residual.ensures.1 in
    rw p.1 (rw p.2 (c.revise.new.replica.ops, c.in_err-tally.ensures.err, c.in_err-tally.ensures.value c.requires))

pub returns-then-is_wiped-clause-err : goal.returns-then-is_wiped-clause-err
returns-then-is_wiped-clause-err g c =
    (c.if-not-all.true, c.copy_len-of.ensures, sym c.is_wiped.ensures ∙ c.if-is_wiped.true, c.revise.new.replica.ops, c.in_ok-tally.tally.inserted, c.in_ok-tally.ensures.ok)
