use Rattle.std.proofs.Common.{inl, inr, refl}
use Rattle.std.proofs.lemmas.Result.{err_from_is_err_and}
use Rattle.feed_files.specs.Files.{Shelf}
use Rattle.feed_files.proofs.Shelves.{same_shelf}
use Rattle.view_punch.proofs.finding.found_alone.Goals as goal

pub returns-in_err-replica-clause-err : goal.returns-in_err-replica-clause-err
returns-in_err-replica-clause-err g c =
    let p = err_from_is_err_and c.from_residual.result c.from_residual.ensures.1 in
    rw p.1 (rw p.2 (inl c.in_err-replica.ensures.err))

pub returns-in_err-found_of-clause-err : goal.returns-in_err-found_of-clause-err
returns-in_err-found_of-clause-err g c =
    let first : Shelf = g.F.Files.shelf c.args.files.now in
    let last : Shelf = g.F.Files.shelf c.open_feed.new.files in
    let same = same_shelf first last c.open_feed.ensures.stays c.in_ok-replica.ensures.counted in
    let p = err_from_is_err_and c.from_residual-in_err-found_of.result c.from_residual-in_err-found_of.ensures.1 in
    rw p.1 (rw p.2 (inr (refl, same, (c.in_ok-replica.replica.ops, c.in_ok-replica.ensures.ok))))
