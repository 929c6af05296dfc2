use Rattle.std.proofs.Common.{sym}
use Rattle.std.proofs.lemmas.Bool.{true≢false}
use Rattle.std.proofs.lemmas.Result.{err_from_is_err_and}
use Rattle.feed_stored.specs.Stored.{was_read}
use Rattle.feed_edit.proofs.Barred.{barred}
use Rattle.feed_edit.proofs.merging.take_known.Goals as goal

pub returns-in_err-known-clause-err : goal.returns-in_err-known-clause-err
returns-in_err-known-clause-err g c =
    let p = err_from_is_err_and c.from_residual-in_err-known.result c.from_residual-in_err-known.ensures.1 in
    rw p.1 (rw p.2 (barred c.args.name.now (g.F.Files.shelf c.args.files.now) (g.F.Files.shelf c.take_feed.new.files) (was_read c.in_ok-old.old) c.in_ok-old.replica.ops c.in_ok-old.ensures.ok (λ none. true≢false (sym (c.in_err-known.ensures.none none)))))
