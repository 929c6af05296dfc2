-- A case as a table: a row of the case a line, and four characters for each cell that holds no directional mark.
use Rattle.std.specs.Prelude.{ℕ, ◌+◌, ◌*◌, ◌%◌, List, [], ◌∷◌, ◌++◌, codes, Option, Some, None, if◌then◌else◌, suc}
use Rattle.std.specs.Prelude.{zero}
use Rattle.std.specs.Fmt.{decimal}
use Rattle.desk_signals.specs.declared.Cell.{Cell}
use Rattle.desk_signals.specs.Words.{column_name}
use Rattle.desk_ops.specs.declared.op.Style.{Style}
use Rattle.desk_ops.specs.declared.op.Style.TheVariants.{Roman, Italic, SmallCap}
use Rattle.desk_ops.specs.declared.op.Symbol.{Symbol}
use Rattle.desk_case.specs.declared.TheConstants.{COLUMNS, ROWS}
use Rattle.desk_case.specs.Names.{cell_of_place, same_cell}
use Rattle.desk_case.specs.Case.{CaseValues, symbol_at}
use Rattle.view_proof.specs.Parts.{right, symbols_text}

-- ---- a cell

abbrev pub mark_in_table : Style → List ℕ
mark_in_table Roman = codes "   "
mark_in_table Italic = codes "  _"
mark_in_table SmallCap = codes "  ^"

abbrev pub text_in_table : Symbol → List ℕ
text_in_table symbol = mark_in_table symbol.style ++ symbols_text (symbol ∷ [])

-- the number of the first of some fills, counted from this one, that stands in the cell
abbrev pub fill_from : ℕ → List Cell → Cell → Option ℕ
fill_from number [] cell = None
fill_from number (fill ∷ fills) cell = if same_cell fill cell then Some number else fill_from (number + 1) fills cell

-- a fill by its number, or a blank
abbrev pub fill_text : Option ℕ → List ℕ
fill_text (Some number) = codes "  f" ++ decimal number
fill_text None = codes "  .."

-- a cell that holds no symbol: the space, a fill or a blank
abbrev pub blank_text : CaseValues → Cell → List ℕ
blank_text case cell = if same_cell case.space cell then codes "  sp" else fill_text (fill_from 1 case.fill cell)

abbrev pub held_text : CaseValues → Cell → Option Symbol → List ℕ
held_text case cell (Some symbol) = text_in_table symbol
held_text case cell None = blank_text case cell

-- ---- the table

-- a cell by its row and by its place in the line, both from 0: NI, NL, and then A to O
unfoldable pub shown_cell : (row at : ℕ) → Cell
shown_cell row at = cell_of_place (COLUMNS * row + (at + 15) % COLUMNS)

-- the names of the first so many columns
unfoldable pub names_to : ℕ → List ℕ
names_to zero = []
names_to (suc n) = names_to n ++ right 4 (column_name (shown_cell 0 n).column)

-- the first so many cells of a row
unfoldable pub cells_to : CaseValues → ℕ → ℕ → List ℕ
cells_to case row zero = []
cells_to case row (suc n) = cells_to case row n ++ held_text case (shown_cell row n) (symbol_at case (shown_cell row n))

abbrev pub line_text : CaseValues → ℕ → List ℕ
line_text case row = right 4 (decimal (row + 1)) ++ (cells_to case row COLUMNS ++ codes "\n")

-- the first so many rows
unfoldable pub lines_to : CaseValues → ℕ → List ℕ
lines_to case zero = []
lines_to case (suc n) = lines_to case n ++ line_text case n

-- the number of the case, the names of the columns, and the rows
abbrev pub case_text : CaseValues → List ℕ
case_text case = (codes "\nCASE " ++ decimal case.number ++ codes "\n\n    ")
    ++ (names_to COLUMNS ++ (codes "\n" ++ lines_to case ROWS))
