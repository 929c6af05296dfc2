-- A ribbon as a picture in the form SVG.
use Rattle.std.specs.Prelude.{ℕ, ◌+◌, ◌-◌, ◌*◌, ◌==◌, if◌then◌else◌, List, ◌++◌, length, codes, Option, Some, None}
use Rattle.std.specs.Fmt.{decimal}
use Rattle.desk_signals.specs.declared.RibbonRow.{RibbonRow}
use Rattle.desk_signals.specs.Rows.{the_signals}
use Rattle.desk_case.specs.Case.{CaseValues}
use Rattle.view_galley.specs.Svg.{text_end}
use Rattle.view_ribbon.specs.declared.extent.Lines.{Lines}
use Rattle.view_ribbon.specs.Parts.{between}
use Rattle.view_ribbon.specs.Channels.{channels_text}
use Rattle.view_ribbon.specs.Rows.{rows_text}
use Rattle.view_ribbon.specs.Stretch.{first_drawn, rows_drawn}

-- how high a picture of so many rows is, how high its paper, and where the paper ends
unfoldable pub height_of : ℕ → ℕ
height_of count = 70 + 13 * count

unfoldable pub paper_of : ℕ → ℕ
paper_of count = 6 + 13 * count

unfoldable pub bottom_of : ℕ → ℕ
bottom_of count = 56 + 13 * count

-- the picture begins
unfoldable pub open_text : ℕ → List ℕ
open_text count =
    between (codes "<svg xmlns=\"http://www.w3.org/2000/svg\" width=\"640\" height=\"") (height_of count)
    (codes "\" font-family=\"sans-serif\" font-size=\"9\">\n")

-- how numbers and meanings look, and the ground
unfoldable pub style_text : List ℕ
style_text =
    codes "<style>.n{text-anchor:end;fill:#777}.m{font-size:11px}</style>"
    ++ codes "\n<rect width=\"100%\" height=\"100%\" fill=\"#fff\"/>\n"

-- the title begins
unfoldable pub title_open : List ℕ
title_open = codes "<text x=\"60\" y=\"16\" font-size=\"12\">"

-- a ribbon of so many rows is drawn
unfoldable pub whole_words : ℕ → List ℕ
whole_words count = between (codes "Ribbon of ") count (codes " rows, as the caster meets them")

-- the rows from one place to another are, both included
unfoldable pub rows_words : (first last count : ℕ) → List ℕ
rows_words first last count = codes "Rows " ++ decimal first ++ codes " to " ++ decimal last ++ codes " of a ribbon of "
    ++ decimal count ++ codes " rows, as the caster meets them"

-- none of them is
unfoldable pub no_rows_words : ℕ → List ℕ
no_rows_words count = between (codes "No rows of a ribbon of ") count (codes " rows")

-- which rows of so many are drawn: so many from a first one on
abbrev pub title_words : Option Lines → (count first drawn : ℕ) → List ℕ
title_words None count first drawn = whole_words count
title_words (Some lines) count first drawn =
    if drawn == 0 then no_rows_words count else rows_words first (first + drawn - 1) count

abbrev pub title_text : Option Lines → (count first drawn : ℕ) → List ℕ
title_text lines count first drawn = title_open ++ (title_words lines count first drawn ++ text_end)

unfoldable pub paper_text : ℕ → List ℕ
paper_text count =
    between (codes "<rect x=\"54\" y=\"50\" width=\"415\" height=\"") (paper_of count)
    (codes "\" fill=\"#f1e6cc\" stroke=\"#b9a97f\"/>\n")

-- and ends
unfoldable pub close_text : List ℕ
close_text = codes "</svg>\n"

-- the title, of so many rows, and paper for those that are drawn
abbrev pub head_text : Option Lines → ℕ → ℕ → ℕ → List ℕ
head_text lines count first drawn =
    open_text drawn ++ (style_text ++ (title_text lines count first drawn ++ paper_text drawn))

-- the paper, its channels, and rows of which the first has this place, as the caster meets them
abbrev pub drawn_text : CaseValues → ℕ → List RibbonRow → List ℕ
drawn_text case first drawn =
    channels_text (bottom_of (length drawn)) the_signals
    ++ (rows_text case (first + length drawn) first drawn ++ close_text)

-- the rows of a ribbon, or those of lines
abbrev pub picture_text : Option Lines → List RibbonRow → CaseValues → List ℕ
picture_text lines rows case =
    head_text lines (length rows) (first_drawn lines rows) (length (rows_drawn lines rows))
    ++ drawn_text case (first_drawn lines rows) (rows_drawn lines rows)
