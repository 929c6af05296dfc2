-- The rows of a case file, where their number, or the number of the texts of one, is not the one wanted.
use Rattle.std.specs.Prelude.{ℕ, suc, ◌==◌, if◌then◌else◌, List, length, Option, Some, None, option_and_then}
use Rattle.std.specs.Prelude.{option_map}
use Rattle.toml.specs.Data.{Data, Items, as_array, as_str, item, no_items}
use Rattle.desk_wedge.specs.Items.{each_of}
use Rattle.desk_case.specs.declared.CaseFault.{CaseFault}
use Rattle.desk_case.specs.declared.CaseFault.TheVariants as cases
use Rattle.desk_case.specs.declared.CaseKey.TheVariants as keys
use Rattle.desk_case.specs.declared.TheConstants.{COLUMNS, ROWS}
use Rattle.feed_check.specs.declared.rows.TheConstants.{NARROW}
use Rattle.feed_check.specs.declared.rows.RowsFault.{RowsFault}
use Rattle.feed_check.specs.declared.rows.RowsFault.TheVariants as faults
use Rattle.feed_check.specs.Texts.{rows_in}

-- how many texts a row has, where it is an array of texts alone
abbrev pub texts_in : Data → Option ℕ
texts_in row = option_map length (option_and_then (each_of as_str) (as_array row))

-- how many items there are
abbrev pub count : Items → ℕ
count no_items = 0
count (item d ds) = suc (count ds)

-- how many texts are wanted of each row, by how many the first has: one of each column, else of A to O
abbrev pub wanted_of : Option ℕ → ℕ
wanted_of None = NARROW
wanted_of (Some texts) = if texts == COLUMNS then COLUMNS else NARROW

abbrev pub wanted_by : Items → ℕ
wanted_by no_items = NARROW
wanted_by (item row rows) = wanted_of (texts_in row)

-- a row of this number, where it has not as many texts as are wanted, or a later one; none where it is no row of texts
abbrev pub row_or : (wanted here : ℕ) → Option ℕ → Option RowsFault → Option RowsFault
row_or wanted here None later = None
row_or wanted here (Some texts) later = if texts == wanted then later else Some (faults.Row here texts wanted)

-- the first such row, where the first of all has this number
abbrev pub first_row : (wanted here : ℕ) → Items → Option RowsFault
first_row wanted here no_items = None
first_row wanted here (item row rows) = row_or wanted here (texts_in row) (first_row wanted (suc here) rows)

-- the number of rows that is wrong, or else that of the texts of one
abbrev pub of_items : Items → Option RowsFault
of_items rows = if count rows == ROWS then first_row (wanted_by rows) 1 rows else Some (faults.Rows (count rows))

abbrev pub rows_fault_of : Data → Option RowsFault
rows_fault_of rows = option_and_then of_items (as_array rows)

abbrev pub rows_fault_in : Option Data → Option RowsFault
rows_fault_in rows = option_and_then rows_fault_of rows

-- of a file
abbrev pub rows_fault : List ℕ → Option RowsFault
rows_fault bytes = rows_fault_in (rows_in bytes)

-- of a file whose fault is of the shape of its rows
abbrev pub fault_rows : List ℕ → CaseFault → Option RowsFault
fault_rows bytes (cases.Shape keys.Rows) = rows_fault bytes
fault_rows bytes other = None
