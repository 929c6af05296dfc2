-- The texts of a case file's cells.
use Rattle.std.specs.Prelude.{ℕ, zero, suc, ◌+◌, ◌*◌, ◌/◌, ◌%◌, Bool, false, if◌then◌else◌, List, [], ◌∷◌, ◌++◌, codes}
use Rattle.std.specs.Prelude.{Option, Some, None, is_some, option_and_then}
use Rattle.std.specs.Char.{encode_utf8}
use Rattle.std.specs.Str.{bytes_eq}
use Rattle.toml.specs.Data.{Data, as_str, at, get_member}
use Rattle.desk_wedge.specs.Keys.{document}
use Rattle.desk_signals.specs.declared.Cell.{Cell}
use Rattle.desk_ops.specs.declared.op.Style.{Style}
use Rattle.desk_ops.specs.declared.op.Style.TheVariants as styles
use Rattle.desk_ops.specs.declared.op.Symbol.{Symbol}
use Rattle.desk_case.specs.File.{key_name}
use Rattle.desk_case.specs.Names.{cell_of_place}
use Rattle.desk_case.specs.declared.CaseFault.{CaseFault}
use Rattle.desk_case.specs.declared.CaseFault.TheVariants as cases
use Rattle.desk_case.specs.declared.CaseKey.TheVariants as keys
use Rattle.desk_case.specs.declared.TheConstants.{COLUMNS, ROWS}

-- the text at a place of rows, counted row by row, a place for each column
abbrev pub text_at : Data → ℕ → Option (List ℕ)
text_at rows place = option_and_then as_str (option_and_then (at (place % COLUMNS)) (at (place / COLUMNS) rows))

-- ---- how many there are

abbrev pub one_text : Data → ℕ → ℕ
one_text rows place = if is_some (text_at rows place) then 1 else 0

-- how many places below one have a text
unfoldable pub texts : Data → ℕ → ℕ
texts rows zero = 0
texts rows (suc place) = texts rows place + one_text rows place

abbrev pub cells_of : Option Data → ℕ
cells_of None = 0
cells_of (Some rows) = texts rows (ROWS * COLUMNS)

-- ---- the cells that have one text

abbrev pub is_text : List ℕ → Option (List ℕ) → Bool
is_text text None = false
is_text text (Some found) = bytes_eq found text

abbrev pub holder : Data → List ℕ → ℕ → List Cell
holder rows text place = if is_text text (text_at rows place) then cell_of_place place ∷ [] else []

-- the cells at the places below one that have this text
unfoldable pub holders : Data → List ℕ → ℕ → List Cell
holders rows text zero = []
holders rows text (suc place) = holders rows text place ++ holder rows text place

abbrev pub holders_of : List ℕ → Option Data → List Cell
holders_of text None = []
holders_of text (Some rows) = holders rows text (ROWS * COLUMNS)

-- the text that stands for a symbol in a case file
abbrev pub mark_in_file : Style → List ℕ
mark_in_file styles.Roman = []
mark_in_file styles.Italic = codes "i:"
mark_in_file styles.SmallCap = codes "s:"

abbrev pub text_in_file : Symbol → List ℕ
text_in_file symbol = mark_in_file symbol.style ++ encode_utf8 symbol.ch

-- ---- of a file

-- what the key `rows` of a file holds
abbrev pub rows_in : List ℕ → Option Data
rows_in bytes = option_and_then (get_member (key_name keys.Rows)) (document bytes)

-- how many cells a file has texts for
abbrev pub cells_in : List ℕ → ℕ
cells_in bytes = cells_of (rows_in bytes)

-- the cells that hold the symbol of a fault, if it is of one
abbrev pub fault_holders : List ℕ → CaseFault → List Cell
fault_holders bytes (cases.Doubled symbol) = holders_of (text_in_file symbol) (rows_in bytes)
fault_holders bytes other = []
