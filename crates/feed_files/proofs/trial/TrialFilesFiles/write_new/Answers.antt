use Rattle.std.proofs.Common.{rules}
use Rattle.std.proofs.lemmas.Result.{err_from_is_err_and}
use Rattle.feed_files.proofs.trial.TrialFilesFiles.write_new.Goals as goal

pub returns-in_err-put-clause-counted : goal.returns-in_err-put-clause-counted
returns-in_err-put-clause-counted g c =
    let p = err_from_is_err_and c.from_residual.result c.from_residual.ensures.1 in
    rw p.1 (rw p.2 (search rules))
