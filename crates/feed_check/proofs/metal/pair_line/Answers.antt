use Rattle.std.proofs.Common.{◌≡◌, refl, false}
use Rattle.std.proofs.lemmas.Result.{err_from_is_err_and}
use Rattle.std.specs.Result.{is_ok}
use Rattle.desk_case.specs.File.{checked}
use Rattle.feed_check.specs.Metal.{unfit_line}
use Rattle.feed_check.proofs.metal.pair_line.Goals as goal

pub returns-in_err-line-clause-err : goal.returns-in_err-line-clause-err
returns-in_err-line-clause-err g c =
    let no : is_ok (checked c.args.wedge.now c.args.case.now) ≡ false = cc in
    let p = err_from_is_err_and c.from_residual.result c.from_residual.ensures.1 in
    rw p.1 (unfit_line c.args.case_name.now c.args.wedge_name.now, rw no refl)
