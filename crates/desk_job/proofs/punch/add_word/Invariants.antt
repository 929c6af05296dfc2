use Rattle.std.proofs.Common.{◌≡◌, ◌++◌, drop}
use Rattle.desk_job.specs.Job.{word_punches}
use Rattle.desk_job.proofs.punch.add_word.Given as goal

abbrev pub invariant-loop-symbol : goal.invariant-loop-symbol
invariant-loop-symbol g l =
    l.punches.items ++ word_punches l.case (drop l.symbol-index l.word) ≡ l.fn.punches.items ++ word_punches l.case l.word
