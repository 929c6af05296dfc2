use Rattle.std.proofs.Common.{drop}
use Rattle.desk_job.specs.Making.{lines_at}
use Rattle.desk_job.proofs.Adding.{IsAdding}
use Rattle.desk_job.proofs.making.Making.add_groups.Given as goal

abbrev pub invariant-loop-i : goal.invariant-loop-i
invariant-loop-i g l = IsAdding l.terms (lines_at l.all.copy.now l.all.words.now (drop l.i l.groups)) (lines_at l.all.copy.now l.all.words.now l.groups) l.fn.self l.self
