use Rattle.std.proofs.Common.{All}
use Rattle.script_plays.specs.Line.{GivesLawful}
use Rattle.script_plays.proofs.lines_of.Given as goal

-- the lines so far give what is lawful
abbrev pub invariant-loop-words : goal.invariant-loop-words
invariant-loop-words l = All GivesLawful l.lines.items
