-- The values of a case file, or its first fault.
use Rattle.std.specs.Prelude.{ℕ, ◌+◌, ◌-◌, nat_lt, Bool, true, ◌&&◌, if◌then◌else◌, List, [], ◌∷◌, ◌++◌, codes, length}
use Rattle.std.specs.Prelude.{replicate, Option, Some, None, Result, Ok, Err, ok_or, map, option_map, option_and_then}
use Rattle.std.specs.Prelude.{is_some}
use Rattle.std.specs.List.{flat_map}
use Rattle.std.specs.Str.{chars}
use Rattle.toml.specs.Data.{Data, Members, as_str}
use Rattle.desk_signals.specs.declared.Cell.{Cell}
use Rattle.desk_signals.specs.Columns.{index}
use Rattle.desk_ops.specs.declared.op.Symbol.{Symbol}
use Rattle.desk_wedge.specs.Keys.{◌>>=◌, number_of, value_at, file_of}
use Rattle.desk_wedge.specs.Items.{array_of}
use Rattle.desk_wedge.specs.declared.keys.TableFault.{TableFault}
use Rattle.desk_wedge.specs.declared.keys.TableFault.TheVariants as table
use Rattle.desk_wedge.specs.Wedge.{WedgeValues, units_of_row}
use Rattle.desk_case.specs.declared.TheConstants.{COLUMNS, NARROW, ROWS}
use Rattle.desk_case.specs.declared.CaseKey.{CaseKey}
use Rattle.desk_case.specs.declared.CaseKey.TheVariants as key
use Rattle.desk_case.specs.declared.CaseFault.{CaseFault}
use Rattle.desk_case.specs.declared.CaseFault.TheVariants.{NotToml, Missing, Shape, BadText, Doubled, NotBlank}
use Rattle.desk_case.specs.declared.CaseFault.TheVariants.{FillOrder, NoMemory}
use Rattle.desk_case.specs.Texts.{matrix_of_text}
use Rattle.desk_case.specs.Names.{cell_named, cell_of_place}
use Rattle.desk_case.specs.Case.{CaseValues, symbol_in, place_in}

-- what a key of the file is called
abbrev pub key_name : CaseKey → List ℕ
key_name key.Case = codes "case"
key_name key.Rows = codes "rows"
key_name key.Space = codes "space"
key_name key.Fill = codes "fill"

-- the number of a fault
abbrev pub fault_number : CaseFault → Option ℕ
fault_number NotToml = Some 1
fault_number (Missing key) = Some 2
fault_number (Shape key) = Some 3
fault_number (BadText cell) = Some 4
fault_number (Doubled symbol) = Some 5
fault_number (NotBlank cell) = Some 6
fault_number FillOrder = Some 7
fault_number NoMemory = None

-- the texts of a row of so many columns
abbrev pub row_of : ℕ → Data → Option (List (List ℕ))
row_of columns d = array_of columns columns as_str d

-- the cell that a text names, where a file of so many columns has it
abbrev pub cell_within : ℕ → List ℕ → Option Cell
cell_within columns text = option_and_then (λ cell. if nat_lt (index cell.column) columns then Some cell else None)
    (cell_named text)

abbrev pub cell_of_data : ℕ → Data → Option Cell
cell_of_data columns d = option_and_then (cell_within columns) (as_str d)

abbrev pub fill_of : ℕ → Data → Option (List Cell)
fill_of columns d = array_of 1 4 (cell_of_data columns) d

-- what a key holds, read; else that it is missing, or that it is no such value
abbrev pub at_key : {A : Type 0} → CaseKey → (Data → Option A) → Members → Result A CaseFault
at_key key read members = value_at (key_name key) (Missing key) (Shape key) read members

-- a blank, a symbol, or a text that is neither
abbrev pub matrix_of : List ℕ → Option (Option Symbol)
matrix_of text = matrix_of_text (chars text)

-- what the texts of a row stand for, and blanks in the columns that it has not
abbrev pub cells_of : List (List ℕ) → List (Option (Option Symbol))
cells_of texts = map matrix_of texts ++ replicate (COLUMNS - length texts) (Some None)

-- what the cells' texts in a file of so many columns stand for, row by row and column by column
abbrev pub matrices_of : ℕ → Data → Option (List (Option (Option Symbol)))
matrices_of columns d = option_map (λ rows. flat_map cells_of rows) (array_of ROWS ROWS (row_of columns) d)

-- the rows of a file: how many columns each has, and what the cells' texts stand for
pub record Sheet : Type 0 where
  pub columns : ℕ
  pub matrices : List (Option (Option Symbol))

abbrev pub sheet_in : ℕ → Data → Option Sheet
sheet_in columns d = option_map (λ ms. record { columns = columns; matrices = ms }) (matrices_of columns d)

abbrev pub or_else : {A : Type 0} → Option A → Option A → Option A
or_else (Some a) other = Some a
or_else None other = other

-- the columns A to O in all rows, or all columns in all rows
abbrev pub sheet_of : Data → Option Sheet
sheet_of d = or_else (sheet_in NARROW d) (sheet_in COLUMNS d)

-- what the cells from a place on hold; a fault at the first text that is neither blank nor a symbol
abbrev pub grid_from : ℕ → List (Option (Option Symbol)) → Result (List (Option Symbol)) CaseFault
grid_from n [] = Ok []
grid_from n (m ∷ ms) =
    ok_or m (BadText (cell_of_place n)) >>= (λ held. grid_from (n + 1) ms >>= (λ grid. Ok (held ∷ grid)))

-- the symbol, where an earlier cell holds it
abbrev pub met : List (Option Symbol) → Option Symbol → Option Symbol
met before None = None
met before (Some symbol) = if is_some (place_in before symbol) then Some symbol else None

-- the first symbol that stands in an earlier cell
abbrev pub doubled_after : List (Option Symbol) → List (Option Symbol) → Option Symbol
doubled_after before [] = None
doubled_after before (m ∷ ms) = or_else (met before m) (doubled_after (before ++ m ∷ []) ms)

abbrev pub first_doubled : List (Option Symbol) → Option Symbol
first_doubled grid = doubled_after [] grid

-- the first of some cells that holds a symbol
abbrev pub first_held : List (Option Symbol) → List Cell → Option Cell
first_held grid [] = None
first_held grid (c ∷ cs) = if is_some (symbol_in grid c) then Some c else first_held grid cs

-- a fault where there is one
abbrev pub unless : {A B : Type 0} → (A → CaseFault) → Option A → B → Result B CaseFault
unless fault None b = Ok b
unless fault (Some a) b = Err (fault a)

-- the values of the keys, each read in its turn, and then the faults of the cells
abbrev pub case_of_members : Members → Result CaseValues CaseFault
case_of_members members =
    at_key key.Case (number_of 1 65535) members >>= (λ n.
    at_key key.Rows sheet_of members >>= (λ sheet.
    at_key key.Space (cell_of_data sheet.columns) members >>= (λ s.
    at_key key.Fill (fill_of sheet.columns) members >>= (λ f.
    grid_from 0 sheet.matrices >>= (λ grid.
    unless Doubled (first_doubled grid) grid >>= (λ grid.
    unless NotBlank (first_held grid (s ∷ f)) (record { number = n; grid = grid; space = s; fill = f })))))))

-- why bytes give no table, as a fault of the file
abbrev pub table_fault : TableFault → CaseFault
table_fault table.NotToml = NotToml
table_fault table.NoMemory = NoMemory

-- the values of a file, or its first fault
abbrev pub case_of : List ℕ → Result CaseValues CaseFault
case_of bytes = file_of NotToml case_of_members bytes

-- each number is above the next
abbrev pub is_descending : List ℕ → Bool
is_descending [] = true
is_descending (u ∷ []) = true
is_descending (u ∷ v ∷ us) = nat_lt v u && is_descending (v ∷ us)

-- the units of some cells
abbrev pub units_of_cells : WedgeValues → List Cell → List ℕ
units_of_cells w cells = map (λ cell. units_of_row w cell.row) cells

-- whether a case goes with a wedge
abbrev pub checked : WedgeValues → CaseValues → Result (Unit {0}) CaseFault
checked w case = if is_descending (units_of_cells w case.fill) then Ok tt else Err FillOrder
