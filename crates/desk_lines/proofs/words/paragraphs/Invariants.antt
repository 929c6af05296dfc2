use Rattle.desk_lines.proofs.Splits.{IsReading}
use Rattle.desk_lines.proofs.words.paragraphs.Given as goal

abbrev pub invariant-loop-i : goal.invariant-loop-i
invariant-loop-i g l = IsReading l.copy l.found.items l.words.items l.from l.i
