use Rattle.std.proofs.Common.{◌≡◌, ◌++◌, drop}
use Rattle.desk_job.specs.Job.{spaced_punches}
use Rattle.desk_job.specs.Setting.{words_at}
use Rattle.desk_job.proofs.punch.add_more_words.Given as goal

abbrev pub invariant-loop-word : goal.invariant-loop-word
invariant-loop-word g l =
    l.punches.items ++ spaced_punches l.case (words_at l.copy (drop l.word-index l.words)) ≡ l.fn.punches.items ++ spaced_punches l.case (words_at l.copy l.words)
