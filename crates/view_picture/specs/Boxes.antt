-- The fills of a line as boxes.
use Rattle.std.specs.Prelude.{ℕ, zero, suc, ◌+◌, ◌-◌, ◌*◌, ◌/◌, ℤ, unsigned_abs, List, [], ◌∷◌, ◌++◌, codes}
use Rattle.desk_units.specs.declared.Pica.{Pica}
use Rattle.view_galley.specs.Svg.{attribute_text}
use Rattle.view_picture.specs.Paper.{across}
use Rattle.view_picture.specs.declared.paper.Paper.{Paper}

-- how high a box is: two thirds of the set of the wedge
abbrev pub height : Paper → ℕ
height paper = paper.set * 2 / 3

-- where a matrix stands from the left that goes from here to there, and how wide it is
abbrev pub span_text : Pica → (from to : ℕ) → List ℕ
span_text pica from to = attribute_text (codes "x") (across pica from)
    ++ attribute_text (codes "width") (across pica to - across pica from)

-- where it stands from the top, on this line, and how high it is
abbrev pub rise_text : Paper → (y : ℕ) → List ℕ
rise_text paper y = attribute_text (codes "y") (y - height paper) ++ attribute_text (codes "height") (height paper)

-- its box
abbrev pub box_text : Paper → (y from to : ℕ) → List ℕ
box_text paper y from to =
    codes "<rect class=\"b\"" ++ (span_text paper.scale.pica from to ++ (rise_text paper y ++ codes "/>\n"))

-- so many boxes of this width
abbrev pub boxes_text : Paper → (y width here count : ℕ) → List ℕ
boxes_text paper y width here zero = []
boxes_text paper y width here (suc count) = box_text paper y here (here + width)
    ++ boxes_text paper y width (here + width) count

-- each fill as often as it is used
abbrev pub fills_text : Paper → (y here : ℕ) → List (ℕ × ℤ) → List ℕ
fills_text paper y here [] = []
fills_text paper y here (fill ∷ more) =
    boxes_text paper y (unsigned_abs fill.1) here fill.0
    ++ fills_text paper y (here + fill.0 * unsigned_abs fill.1) more
