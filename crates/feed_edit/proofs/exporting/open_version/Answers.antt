use Rattle.std.proofs.Common.{◌∙◌, ◌<◌, ap, subst, sym}
use Rattle.std.proofs.lemmas.Result.{err_from_is_err_and}
use Rattle.desk_ops.specs.OpSet.{max_ops, no_ops, size, with_all}
use Rattle.feed_edit.proofs.Opening.{closed_by, crowded}
use Rattle.feed_edit.proofs.exporting.open_version.Goals as goal

pub returns-in_err-ops-clause-err : goal.returns-in_err-ops-clause-err
returns-in_err-ops-clause-err g c =
    let p = err_from_is_err_and c.from_residual.result c.from_residual.ensures.1 in
    rw p.1 (rw p.2 (closed_by c.args.version.until c.args.version.feed.now (g.F.Files.shelf c.args.files.now) (g.F.Files.shelf c.operations_of.new.files) _ c.in_err-ops.ensures.err c.in_err-ops.ensures.never_full))

pub returns-in_err-open-clause-err : goal.returns-in_err-open-clause-err
returns-in_err-open-clause-err g c =
    let p = err_from_is_err_and c.from_residual-in_err-open.result c.from_residual-in_err-open.ensures.1 in
    let kept = c.deref.ensures.value ∙ c.keep_until.ensures.kept in
    rw p.1 (rw p.2 (crowded c.args.version.until c.args.version.feed.now (g.F.Files.shelf c.args.files.now) (g.F.Files.shelf c.operations_of.new.files) c.in_ok-ops.ops.items _ c.in_ok-ops.ensures.ok.0 c.in_ok-ops.ensures.ok.1
    (λ full. subst (λ l. max_ops < size (with_all no_ops l)) kept (c.in_err-open.ensures.full full))))

pub returns-clause-ok : goal.returns-clause-ok
returns-clause-ok g c = (c.in_ok-ops.ops.items, c.in_ok-ops.ensures.ok.0, c.in_ok-open.ensures.ops ∙ ap (with_all no_ops) (c.deref.ensures.value ∙ c.keep_until.ensures.kept))
