-- The lines of a list.
use Rattle.std.specs.Prelude.{All, ⊤}
use Rattle.desk_ops.specs.Op.{IsLawful}
use Rattle.script_plays.specs.declared.line.Line.{Line}
use Rattle.script_plays.specs.declared.line.Line.TheVariants as lines

-- what the line gives is lawful
abbrev pub GivesLawful : Line → Type 0
GivesLawful (lines.Site site) = ⊤
GivesLawful (lines.Insert site place symbol) = ⊤
GivesLawful (lines.Delete site place) = ⊤
GivesLawful (lines.Set site key value) = ⊤
GivesLawful (lines.Give to ops) = All IsLawful ops.items
GivesLawful (lines.Restart site) = ⊤
