-- The names of cells, and their places in a grid of all columns.
use Rattle.std.specs.Prelude.{ℕ, Bool, ◌-◌, ◌+◌, ◌*◌, ◌/◌, ◌%◌, ◌≤◌, ◌==◌, ◌&&◌, nat_le, nat_lt, if◌then◌else◌, List}
use Rattle.std.specs.Prelude.{[], ◌∷◌, ◌++◌, codes, Option, Some, None}
use Rattle.std.specs.Option.{unwrap_or}
use Rattle.desk_signals.specs.declared.Column.{Column}
use Rattle.desk_signals.specs.declared.Column.TheVariants as column
use Rattle.desk_signals.specs.declared.Cell.{Cell}
use Rattle.desk_signals.specs.Columns.{index, column_at}
use Rattle.desk_signals.specs.Words.{column_name}
use Rattle.desk_case.specs.declared.TheConstants.{COLUMNS, ROWS}

-- the column of a letter, A to O
abbrev pub column_of_letter : ℕ → Option Column
column_of_letter l = if nat_le 65 l && nat_le l 79 then column_at (l - 65) else None

-- a row in decimal, with no leading zero
abbrev pub digits : ℕ → List ℕ
digits row = if nat_lt row 10 then (row + 48) ∷ [] else 49 ∷ (row + 38) ∷ []

abbrev pub row_of_digits : List ℕ → Option ℕ
row_of_digits [] = None
row_of_digits (d ∷ []) = if nat_le 49 d && nat_le d 57 then Some (d - 48) else None
row_of_digits (t ∷ d ∷ []) = if t == 49 && nat_le 48 d && nat_le d 53 then Some (d - 38) else None
row_of_digits (t ∷ d ∷ e ∷ more) = None

-- a cell's name
abbrev pub name_of : Cell → List ℕ
name_of cell = column_name cell.column ++ digits cell.row

abbrev pub cell_at : Option Column → Option ℕ → Option Cell
cell_at (Some c) (Some r) = Some (record { column = c; row = r })
cell_at _ _ = None

-- the cell that a text names
abbrev pub cell_named : List ℕ → Option Cell
cell_named [] = None
cell_named (l ∷ []) = None
cell_named (l ∷ k ∷ ds) =
    if l == 78 && k == 73 then cell_at (Some column.NI) (row_of_digits ds)
    else if l == 78 && k == 76 then cell_at (Some column.NL) (row_of_digits ds)
    else cell_at (column_of_letter l) (row_of_digits (k ∷ ds))

-- a cell of a case
abbrev pub IsCell : Cell → Type 0
IsCell cell = (1 ≤ cell.row) × (cell.row ≤ ROWS)

-- the place of a cell among all, from 0, row by row
abbrev pub place : Cell → ℕ
place cell = COLUMNS * (cell.row - 1) + index cell.column

-- the cells are one
abbrev pub same_cell : Cell → Cell → Bool
same_cell a b = place a == place b

-- the cell at a place
abbrev pub cell_of_place : ℕ → Cell
cell_of_place n = record { column = unwrap_or (column_at (n % COLUMNS)) column.A; row = n / COLUMNS + 1 }
