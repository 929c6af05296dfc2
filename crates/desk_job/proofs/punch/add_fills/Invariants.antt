use Rattle.std.proofs.Common.{◌≡◌, ◌++◌, drop}
use Rattle.std.specs.List.{zip}
use Rattle.desk_job.specs.Job.{fill_punches}
use Rattle.desk_job.proofs.punch.add_fills.Given as goal

abbrev pub invariant-loop-i : goal.invariant-loop-i
invariant-loop-i g l =
    l.punches.items ++ fill_punches (zip (drop l.i l.counts) (drop l.i l.cells)) ≡ l.fn.punches.items ++ fill_punches (zip l.counts l.cells)
