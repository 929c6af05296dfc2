use Rattle.std.proofs.Common.{drop}
use Rattle.desk_job.specs.Making.{all_lines}
use Rattle.desk_job.proofs.Adding.{IsAdding}
use Rattle.desk_job.proofs.making.Making.add_paragraphs.Given as goal

abbrev pub invariant-loop-paragraph : goal.invariant-loop-paragraph
invariant-loop-paragraph g l = IsAdding l.terms (all_lines l.terms l.copy (drop l.paragraph-index l.found)) (all_lines l.terms l.copy l.found) l.fn.self l.self
