use Rattle.std.specs.Prelude.{◌≤◌, length}
use Rattle.desk_job.specs.Job.{word_punches}
use Rattle.desk_job.proofs.Asked.{matrix_asked, of_any}
use Rattle.desk_job.proofs.punch.add_word.Goals as goal

pub returns-in_err-push-clause-memory : goal.returns-in_err-push-clause-memory
returns-in_err-push-clause-memory g c =
    of_any c.from_residual.result (1 ≤ length (word_punches c.args.case.now c.args.word.now))
    (matrix_asked c.args.case.now c.args.word.now _ _ c.in-Some.cell c.loop-symbol-test.true c.in-Some.ensures.value)
