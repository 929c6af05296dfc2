use Rattle.std.proofs.Common.{inl}
use Rattle.std.proofs.lemmas.Result.{err_from_is_err_and}
use Rattle.script_answers.specs.Inputs.{BothGive, BothLackMemory}
use Rattle.script_answers.proofs.Gives.{lacking}
use Rattle.script_answers.proofs.job.job_by_files.Goals as goal

pub returns-in_err-case-clause-memory : goal.returns-in_err-case-clause-memory
returns-in_err-case-clause-memory g c =
    let first = g.F.Files.shelf c.args.files.now in
    let last = g.F.Files.shelf c.both.new.files in
    let p = err_from_is_err_and c.from_residual.result c.from_residual.ensures.1 in
    rw p.1 (rw p.2 (λ is. inl (lacking (λ given. BothGive c.args.case.now c.args.wedge.now first given last) (BothLackMemory c.args.case.now c.args.wedge.now first last) c.in_err-case.field-0.0 c.in_err-case.ensures.given is)))
