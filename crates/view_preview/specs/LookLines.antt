-- Second looks as lines.
use Rattle.std.specs.Prelude.{ℕ, ◌+◌, ◌-◌, List, [], ◌∷◌, ◌++◌, take, drop, codes}
use Rattle.std.specs.Fmt.{decimal}
use Rattle.desk_ops.specs.declared.op.Symbol.{Symbol}
use Rattle.view_proof.specs.Parts.{marked_text}
use Rattle.view_preview.specs.declared.looks.Look.{Look}
use Rattle.view_preview.specs.declared.looks.LookKind.{LookKind}
use Rattle.view_preview.specs.declared.looks.LookKind.TheVariants as kinds
use Rattle.view_preview.specs.declared.located_faults.Located.{Located}
use Rattle.view_preview.specs.LocatedFaults.{position_text}

-- what a look is for
abbrev pub kind_text : LookKind → List ℕ
kind_text kinds.HyphenInside = codes "hyphen inside a line"
kind_text kinds.TwoSpaces = codes "two spaces"
kind_text kinds.SpaceBeforePoint = codes "space before a point"
kind_text kinds.SpaceBeforeComma = codes "space before a comma"
kind_text kinds.StraightQuote = codes "straight quote"
kind_text kinds.WordRepeated = codes "word repeated"
kind_text kinds.LinesEndAlike = codes "three lines end alike"

-- the symbols of a look, with up to 20 before them and up to 20 behind them
abbrev pub window : List Symbol → Look → List Symbol
window copy look = drop (look.place - 20) (take (look.place + look.len + 20) copy)

-- its place and what it is for, and then these symbols as they are shown
abbrev pub look_title : Look → List ℕ
look_title look = codes "look at " ++ decimal look.place ++ codes ": " ++ kind_text look.kind ++ codes ": \""

abbrev pub look_line : List Symbol → Look → List ℕ
look_line copy look = look_title look ++ (marked_text (window copy look) ++ codes "\"\n")

abbrev pub look_lines : List Symbol → List Look → List ℕ
look_lines copy [] = []
look_lines copy (look ∷ looks) = look_line copy look ++ look_lines copy looks

-- behind an empty line, if there are any
abbrev pub looks_text : List Symbol → List Look → List ℕ
looks_text copy [] = []
looks_text copy (look ∷ looks) = codes "\n" ++ look_lines copy (look ∷ looks)

-- its position and what it is for
abbrev pub warning_text : Located → Look → List ℕ
warning_text at look = position_text at look.place ++ (codes "warning: " ++ kind_text look.kind ++ codes "\n")

abbrev pub warnings_text : Located → List Look → List ℕ
warnings_text at [] = []
warnings_text at (look ∷ looks) = warning_text at look ++ warnings_text at looks
