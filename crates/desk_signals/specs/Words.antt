-- How columns, cells and what is no row read in a message.
use Rattle.std.specs.Prelude.{ℕ, ◌+◌, List, [], ◌∷◌, ◌++◌, codes}
use Rattle.std.specs.Fmt.{decimal}
use Rattle.desk_signals.specs.declared.Column.{Column}
use Rattle.desk_signals.specs.declared.Column.TheVariants as column
use Rattle.desk_signals.specs.declared.Cell.{Cell}
use Rattle.desk_signals.specs.declared.BadRow.{BadRow}
use Rattle.desk_signals.specs.declared.BadRow.TheVariants as bad
use Rattle.desk_signals.specs.Columns.{index}

-- a column's name: its letter, or its two
abbrev pub column_name : Column → List ℕ
column_name column.NI = codes "NI"
column_name column.NL = codes "NL"
column_name c = (index c + 65) ∷ []

-- its column and its row
abbrev pub cell_words : Cell → List ℕ
cell_words cell = column_name cell.column ++ decimal cell.row

-- why signals are no row
abbrev pub bad_row_words : BadRow → List ℕ
bad_row_words bad.TwoLetters = codes "two letters"
bad_row_words bad.TwoNumbers = codes "two numbers"
bad_row_words bad.FineAlone = codes "0005 without 0075"
bad_row_words bad.WedgeWithLetter = codes "0075 with a letter"
bad_row_words bad.WedgeWithS = codes "0075 with S"
bad_row_words bad.Repeated = codes "a signal stands twice"
