use Rattle.std.specs.Prelude.{◌≤◌, length}
use Rattle.std.specs.List.{zip}
use Rattle.desk_job.specs.Job.{fill_punches}
use Rattle.desk_job.proofs.Asked.{fill_asked, of_any}
use Rattle.desk_job.proofs.punch.add_fills.Goals as goal

pub returns-in_err-add_times-clause-memory : goal.returns-in_err-add_times-clause-memory
returns-in_err-add_times-clause-memory g c =
    of_any c.from_residual.result (1 ≤ length (fill_punches (zip c.args.counts.now c.args.cells.now)))
    (fill_asked c.args.counts.now c.args.cells.now _ _ c.loop-i-test.true c.requires c.in_err-add_times.ensures.memory)
