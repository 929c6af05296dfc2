-- The lines of two ribbons that differ, as text.
use Rattle.std.specs.Prelude.{ℕ, suc, ◌+◌, ◌==◌, ◌&&◌, Bool, true, false, List, [], ◌∷◌, ◌++◌, length, codes}
use Rattle.std.specs.Prelude.{if◌then◌else◌, Result, Ok, Err}
use Rattle.std.specs.Bool.{beq}
use Rattle.std.specs.Fmt.{decimal}
use Rattle.text_copy.specs.Plain.{plain_text}
use Rattle.desk_case.specs.Names.{same_cell}
use Rattle.desk_units.specs.declared.Pica.{Pica}
use Rattle.desk_caster.specs.Caster.{Line}
use Rattle.desk_caster.specs.declared.CastMatrix.{CastMatrix}
use Rattle.view_ribbon.specs.Casting.{Cast}
use Rattle.view_ribbon.specs.Lines.{line_text, longest_of}
use Rattle.view_ribbon.specs.declared.differences.Scale.{Scale}

-- ---- what is cast

-- two matrices are of one cell, both with S or both without
abbrev pub is_same_matrix : CastMatrix → CastMatrix → Bool
is_same_matrix a b = same_cell a.cell b.cell && beq a.s b.s

abbrev pub are_same_matrices : List CastMatrix → List CastMatrix → Bool
are_same_matrices [] [] = true
are_same_matrices [] (b ∷ others) = false
are_same_matrices (a ∷ ones) [] = false
are_same_matrices (a ∷ ones) (b ∷ others) = is_same_matrix a b && are_same_matrices ones others

-- two lines have the same positions of the wedges, and the same matrices
abbrev pub is_same_line : Line → Line → Bool
is_same_line a b = a.coarse == b.coarse && (a.fine == b.fine && are_same_matrices a.matrices b.matrices)

-- ---- lines

-- the first line of the one with the first of the other, and so on: how many differ; a line that only one has does
abbrev pub differing : List Line → List Line → ℕ
differing [] [] = 0
differing [] (b ∷ others) = suc (differing [] others)
differing (a ∷ lines) [] = suc (differing lines [])
differing (a ∷ lines) (b ∷ others) = (if is_same_line a b then 0 else 1) + differing lines others

-- a line of the first ribbon, and one of the second, as a reading of its ribbon has it
abbrev pub one_text : Scale → ℕ → Line → List ℕ
one_text scale number line = codes "- " ++ line_text scale.pica scale.one number line

abbrev pub other_text : Scale → ℕ → Line → List ℕ
other_text scale number line = codes "+ " ++ line_text scale.pica scale.other number line

-- two lines of one number, where they differ
abbrev pub pair_text : Scale → ℕ → Line → Line → List ℕ
pair_text scale number a b =
    if is_same_line a b then [] else one_text scale number a ++ other_text scale number b

-- the lines that differ, where so many come before them
abbrev pub differences_from : Scale → ℕ → List Line → List Line → List ℕ
differences_from scale before [] [] = []
differences_from scale before [] (b ∷ others) =
    other_text scale (before + 1) b ++ differences_from scale (before + 1) [] others
differences_from scale before (a ∷ lines) [] =
    one_text scale (before + 1) a ++ differences_from scale (before + 1) lines []
differences_from scale before (a ∷ lines) (b ∷ others) =
    pair_text scale (before + 1) a b ++ differences_from scale (before + 1) lines others

-- ---- the whole

-- how many lines a ribbon of this name has
abbrev pub named_count : List ℕ → ℕ → List ℕ
named_count name count = plain_text name ++ (codes " " ++ decimal count ++ codes " lines, ")

abbrev pub differ_words : ℕ → List ℕ
differ_words count =
    if count == 0 then codes "none differs" else if count == 1 then codes "1 differs"
    else decimal count ++ codes " differ"

abbrev pub head_text : (one other : List ℕ) → (lines others count : ℕ) → List ℕ
head_text one other lines others count =
    named_count one lines ++ (named_count other others ++ (differ_words count ++ codes "\n"))

-- by what the lines of two ribbons are written
abbrev pub scale_of : Pica → List Line → List Line → Scale
scale_of pica lines others = record { pica = pica; one = longest_of lines; other = longest_of others }

-- those that differ, where there are any
abbrev pub body_text : Scale → ℕ → List Line → List Line → List ℕ
body_text scale count lines others =
    if count == 0 then [] else codes "\n" ++ differences_from scale 0 lines others

-- how many lines two ribbons have, how many differ, and these
abbrev pub differences_text : Pica → (one other : List ℕ) → List Line → List Line → List ℕ
differences_text pica one other lines others =
    head_text one other (length lines) (length others) (differing lines others)
    ++ body_text (scale_of pica lines others) (differing lines others) lines others

-- the first fault of a ribbon that is not cast, behind its name
abbrev pub fault_text : List ℕ → Result Cast (List ℕ) → List ℕ
fault_text name (Ok cast) = []
fault_text name (Err line) = plain_text name ++ (codes ": " ++ line)

-- what is written of two ribbons: where either is not cast, the first fault of each that is not
abbrev pub comparison_text : Pica → (one other : List ℕ) → Result Cast (List ℕ) → Result Cast (List ℕ) → List ℕ
comparison_text pica one other (Ok a) (Ok b) = differences_text pica one other a.lines b.lines
comparison_text pica one other (Err line) b = fault_text one (Err line) ++ fault_text other b
comparison_text pica one other (Ok a) (Err line) = fault_text other (Err line)

-- both are cast, and no line differs
abbrev pub are_alike : Result Cast (List ℕ) → Result Cast (List ℕ) → Bool
are_alike (Ok a) (Ok b) = differing a.lines b.lines == 0
are_alike (Err line) b = false
are_alike (Ok a) (Err line) = false
