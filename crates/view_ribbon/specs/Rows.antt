-- The rows of a ribbon in a picture of it.
use Rattle.std.specs.Prelude.{ℕ, suc, ◌+◌, ◌-◌, ◌*◌, Bool, true, false, List, [], ◌∷◌, ◌++◌, Option, Some, None, codes}
use Rattle.std.specs.Prelude.{if◌then◌else◌}
use Rattle.std.specs.Fmt.{decimal}
use Rattle.desk_ops.specs.declared.op.Style.{Style}
use Rattle.desk_ops.specs.declared.op.Style.TheVariants as styles
use Rattle.desk_ops.specs.declared.op.Symbol.{Symbol}
use Rattle.desk_signals.specs.declared.Cell.{Cell}
use Rattle.desk_signals.specs.declared.Signal.{Signal}
use Rattle.desk_signals.specs.declared.RibbonRow.{RibbonRow}
use Rattle.desk_signals.specs.declared.RibbonRow.TheVariants as row
use Rattle.desk_signals.specs.Rows.{signals_of}
use Rattle.desk_case.specs.Case.{CaseValues, symbol_at, is_fill}
use Rattle.desk_case.specs.Names.{same_cell}
use Rattle.view_galley.specs.Svg.{escaped_char, text_end}
use Rattle.view_ribbon.specs.Parts.{between}
use Rattle.view_ribbon.specs.Channels.{x_of}

-- ---- holes

-- a circle so far to the right, and so far down
unfoldable pub hole_x : Signal → List ℕ
hole_x signal = between (codes "<circle cx=\"") (x_of signal) (codes "\"")

unfoldable pub hole_y : ℕ → List ℕ
hole_y y = between (codes " cy=\"") y (codes "\" r=\"4\"/>")

abbrev pub hole_text : ℕ → Signal → List ℕ
hole_text y signal = hole_x signal ++ hole_y y

-- a hole for each signal that is punched
abbrev pub holes_text : ℕ → List Signal → List ℕ
holes_text y [] = []
holes_text y (signal ∷ signals) = hole_text y signal ++ holes_text y signals

-- ---- meanings

abbrev pub style_text : Style → List ℕ
style_text styles.Roman = []
style_text styles.Italic = codes " italic"
style_text styles.SmallCap = codes " small capital"

-- a symbol by its character and its style
abbrev pub symbol_text : Symbol → List ℕ
symbol_text s = escaped_char s.ch ++ style_text s.style

-- what stands in a cell without a symbol
abbrev pub blank_text : CaseValues → Cell → List ℕ
blank_text case cell = if same_cell case.space cell then codes "space" else if is_fill case cell then codes "fill"
    else codes "no matrix"

-- what stands in a cell
abbrev pub held_text : CaseValues → Cell → Option Symbol → List ℕ
held_text case cell (Some s) = symbol_text s
held_text case cell None = blank_text case cell

-- S, where a row has it
abbrev pub s_text : Bool → List ℕ
s_text true = codes " S"
s_text false = []

-- what a row means to the caster: a matrix, the coarse wedge, or the end of a line and the fine wedge
abbrev pub meaning_text : CaseValues → RibbonRow → List ℕ
meaning_text case (row.Cell column n s) =
    let cell : Cell = record { column = column; row = n } in
    held_text case cell (symbol_at case cell) ++ s_text s
meaning_text case (row.Coarse position) = codes "0075 at " ++ decimal position
meaning_text case (row.FineOut position) = codes "line out; 0005 at " ++ decimal position

-- ---- rows

-- how far down a row of so many stands: the last row of a ribbon, which the caster meets first, at 58, and each one
-- before it 13 farther
unfoldable pub y_of : (count place : ℕ) → ℕ
y_of count place = 58 + 13 * (count - 1 - place)

-- the place of a row in punched order, from 0, at its left
unfoldable pub number_place : ℕ → List ℕ
number_place y = between (codes "<text class=\"n\" x=\"48\" y=\"") (y + 3) (codes "\"")

unfoldable pub number_value : ℕ → List ℕ
number_value place = between (codes ">") place (codes "</text>")

abbrev pub number_text : ℕ → ℕ → List ℕ
number_text y place = number_place y ++ number_value place

-- what it means, at its right
unfoldable pub meaning_place : ℕ → List ℕ
meaning_place y = between (codes "<text class=\"m\" x=\"477\" y=\"") (y + 3) (codes "\">")

abbrev pub meaning_at : CaseValues → ℕ → RibbonRow → List ℕ
meaning_at case y row = meaning_place y ++ (meaning_text case row ++ text_end)

-- a row that stands so far down
abbrev pub row_at : CaseValues → ℕ → ℕ → RibbonRow → List ℕ
row_at case y place row = number_text y place ++ (holes_text y (signals_of row) ++ meaning_at case y row)

abbrev pub row_text : CaseValues → ℕ → ℕ → RibbonRow → List ℕ
row_text case count place row = row_at case (y_of count place) place row

-- The last of so many rows, the first of which has this place, up to the first: so the caster meets them.
abbrev pub rows_text : CaseValues → ℕ → ℕ → List RibbonRow → List ℕ
rows_text case count place [] = []
rows_text case count place (row ∷ rows) = rows_text case count (suc place) rows ++ row_text case count place row
