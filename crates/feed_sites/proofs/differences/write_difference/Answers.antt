use Rattle.std.proofs.Common.{List, ℕ, subst}
use Rattle.std.proofs.lemmas.Result.{err_from_is_err_and}
use Rattle.std.specs.Io.KnownBytes.{Appends}
use Rattle.feed_stored.specs.Sending.{WritesPrefix}
use Rattle.feed_sites.proofs.differences.write_difference.Goals as goal

pub returns-in_err-write_out-clause-err : goal.returns-in_err-write_out-clause-err
returns-in_err-write_out-clause-err g c =
    let front = subst (λ (l : List ℕ). WritesPrefix (g.W.Write.contents c.args.writer.now) (g.W.Write.contents c.write_out.new.writer) l) c.deref.ensures.value c.in_err-write_out.ensures.err in
    let p = err_from_is_err_and c.from_residual-in_err-write_out.result c.from_residual-in_err-write_out.ensures.1 in
    rw p.1 (rw p.2 (c.in_ok-text.text.items, c.in_ok-text.same, c.in_ok-text.ensures, front))

pub returns-clause-ok : goal.returns-clause-ok
returns-clause-ok g c =
    let written = subst (λ (l : List ℕ). Appends (g.W.Write.contents c.args.writer.now) (g.W.Write.contents c.write_out.new.writer) l) c.deref.ensures.value c.in_ok-write_out.ensures.ok in
    (c.in_ok-text.text.items, c.in_ok-text.ensures, written)
