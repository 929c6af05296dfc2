-- What the words of a case mean, said of cells, places and names.
use Rattle.std.specs.Prelude.{◌≡◌, ◌≢◌, ℕ, ◌<◌, ◌≤◌, ◌↔◌, IsTrue, List, [], ◌∷◌, drop, All, Option, Some, None, Ok}
use Rattle.std.specs.Prelude.{MatchOption}
use Rattle.std.specs.List.{AllPairs}
use Rattle.toml.specs.Data.{Members}
use Rattle.desk_signals.specs.declared.Cell.{Cell}
use Rattle.desk_signals.specs.declared.Column.TheVariants as column
use Rattle.desk_signals.specs.Columns.{the_columns, index}
use Rattle.desk_ops.specs.declared.op.Symbol.{Symbol}
use Rattle.desk_case.specs.declared.TheConstants.{NARROW}
use Rattle.desk_case.specs.declared.CaseKey.TheVariants as key
use Rattle.desk_case.specs.Names.{cell_named, name_of, IsCell}
use Rattle.desk_case.specs.Case.{CaseValues, symbol_at, cell_of, StandsAt, IsDistinct, IsCase}
use Rattle.desk_case.specs.File.{Sheet, at_key, sheet_of, case_of_members, first_doubled, is_descending}

-- a symbol's cell is the cell that holds it
abbrev pub CellsAndSymbolsAreInverse : Type 0
CellsAndSymbolsAreInverse = (case : CaseValues) → IsCase case → (symbol : Symbol) (cell : Cell)
    → (cell_of case symbol ≡ Some cell) ↔ ((symbol_at case cell ≡ Some symbol) × IsCell cell)

-- a text names a cell exactly where it is the cell's name
abbrev pub NamesAreOneToOne : Type 0
NamesAreOneToOne = (text : List ℕ) (cell : Cell) → (cell_named text ≡ Some cell) ↔ ((text ≡ name_of cell) × IsCell cell)

-- a symbol stands at this place and at an earlier one
pub record IsDoubledAt (grid : List (Option Symbol)) (symbol : Symbol) (n : ℕ) : Type 0 where
  pub here : StandsAt grid symbol n
  pub earlier : ℕ
  pub before : earlier < n
  pub there : StandsAt grid symbol earlier

-- the first symbol that does
pub record IsFirstDoubled (grid : List (Option Symbol)) (symbol : Symbol) : Type 0 where
  pub at : ℕ
  pub doubled : IsDoubledAt grid symbol at
  pub least : (other : Symbol) (n : ℕ) → n < at → IsDoubledAt grid other n → ⊥

abbrev pub DoubledIsFirst : Type 0
DoubledIsFirst = (grid : List (Option Symbol))
    → MatchOption (first_doubled grid) (IsDistinct grid) (IsFirstDoubled grid)

-- each number is above every later one
abbrev pub DescentIsOfAllPairs : Type 0
DescentIsOfAllPairs = (us : List ℕ) → IsTrue (is_descending us) ↔ AllPairs (λ u v. v < u) us

-- the columns that a narrow file has not
abbrev pub NarrowFilesLackNiAndNl : Type 0
NarrowFilesLackNiAndNl = drop NARROW the_columns ≡ column.NI ∷ column.NL ∷ []

-- where a file has not the columns NI and NL, its case has no symbol there, and neither its space nor a fill
abbrev pub NarrowCasesLackColumns : Type 0
NarrowCasesLackColumns =
    (members : Members) (sheet : Sheet) (case : CaseValues) → at_key key.Rows sheet_of members ≡ Ok sheet
    → case_of_members members ≡ Ok case
    → (cell : Cell) → IsCell cell → sheet.columns ≤ index cell.column
    → (symbol_at case cell ≡ None) × (cell ≢ case.space) × All (λ fill. cell ≢ fill) case.fill
