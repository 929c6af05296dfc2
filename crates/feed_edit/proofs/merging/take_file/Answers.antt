use Rattle.std.proofs.Common.{refl, subst, sym}
use Rattle.std.proofs.lemmas.Result.{err_from_is_err_and}
use Rattle.feed_edit.specs.Merging.{IsFeedOf}
use Rattle.feed_edit.proofs.Joining.{no_memory, refused}
use Rattle.feed_edit.proofs.merging.take_file.Goals as goal

pub returns-in_err-ops-clause-err : goal.returns-in_err-ops-clause-err
returns-in_err-ops-clause-err g c =
    let p = err_from_is_err_and c.from_residual.result c.from_residual.ensures.1 in
    rw p.1 (rw p.2 (c.in_err-ops.ensures.err c.args.replica.now.ops))

pub returns-in_err-before-clause-err : goal.returns-in_err-before-clause-err
returns-in_err-before-clause-err g c =
    let p = err_from_is_err_and c.from_residual-in_err-before.result c.from_residual-in_err-before.ensures.1 in
    let feed = c.in_ok-ops.ensures.ok in
    rw p.1 (rw p.2 (no_memory c.args.replica.now.ops c.args.name.now (g.F.Files.shelf c.args.files.now) (g.F.Files.shelf c.operations_of.new.files) c.in_ok-ops.ops.items feed.0 feed.1))

pub returns-in_err-count-clause-err : goal.returns-in_err-count-clause-err
returns-in_err-count-clause-err g c =
    let p = err_from_is_err_and c.from_residual-in_err-count.result c.from_residual-in_err-count.ensures.1 in
    let feed = subst (λ l. IsFeedOf ((g.F.Files.shelf c.args.files.now).kept c.args.name.now) l) (sym c.deref-2.ensures.value) c.in_ok-ops.ensures.ok.0 in
    rw p.1 (rw p.2 (refused c.args.replica.now.ops c.take_all.new.self.ops c.args.name.now (g.F.Files.shelf c.args.files.now) (g.F.Files.shelf c.operations_of.new.files) c.deref-2.result.now c.in_err-count.field-0.0 _ refl feed c.in_ok-ops.ensures.ok.1 c.in_err-count.ensures.stopped))
