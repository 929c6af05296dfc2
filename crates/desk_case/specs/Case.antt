-- What a case is, as its file gives it, and what holds of every case.
use Rattle.std.specs.Prelude.{◌≡◌, ℕ, ◌*◌, ◌≤◌, Bool, false, List, length, All, Option, Some, None, option_map}
use Rattle.std.specs.Prelude.{slice_get}
use Rattle.std.specs.Option.{option_flatten}
use Rattle.std.specs.List.{list_any, position_from}
use Rattle.std.specs.Map.{lookup}
use Rattle.desk_signals.specs.declared.Cell.{Cell}
use Rattle.desk_ops.specs.declared.op.Symbol.{Symbol}
use Rattle.desk_ops.specs.contracts.op.SymbolPartialEq.TheImpl as symbol_eq
use Rattle.desk_case.specs.declared.TheConstants.{COLUMNS, ROWS}
use Rattle.desk_case.specs.Names.{place, same_cell, cell_of_place, IsCell}

-- the number, what each cell holds, row by row and column by column, the space and the fills
pub record CaseValues : Type 0 where
  pub number : ℕ
  pub grid : List (Option Symbol)
  pub space : Cell
  pub fill : List Cell

-- what a cell of a grid holds
abbrev pub symbol_in : List (Option Symbol) → Cell → Option Symbol
symbol_in grid cell = option_flatten (slice_get grid (place cell))

abbrev pub same_symbol : Symbol → Symbol → Bool
same_symbol = (symbol_eq.ghosts).eq

abbrev pub is_held : Symbol → Option Symbol → Bool
is_held symbol None = false
is_held symbol (Some held) = same_symbol symbol held

-- the first place of a grid that holds a symbol
abbrev pub place_in : List (Option Symbol) → Symbol → Option ℕ
place_in grid symbol = position_from (is_held symbol) 0 grid

-- the cell of a grid that holds a symbol
abbrev pub cell_in : List (Option Symbol) → Symbol → Option Cell
cell_in grid symbol = option_map cell_of_place (place_in grid symbol)

-- the symbol that a cell of a case holds
abbrev pub symbol_at : CaseValues → Cell → Option Symbol
symbol_at case cell = symbol_in case.grid cell

-- the cell of a case that holds a symbol
abbrev pub cell_of : CaseValues → Symbol → Option Cell
cell_of case symbol = cell_in case.grid symbol

-- a fill of a case is in the cell
abbrev pub is_fill : CaseValues → Cell → Bool
is_fill case cell = list_any (same_cell cell) case.fill

-- the symbol stands at the place
abbrev pub StandsAt : List (Option Symbol) → Symbol → ℕ → Type 0
StandsAt grid symbol n = slice_get grid n ≡ Some (Some symbol)

-- no symbol stands at two places
pub record IsDistinct (grid : List (Option Symbol)) : Type 0 where
  pub once : (symbol : Symbol) (m n : ℕ) → StandsAt grid symbol m → StandsAt grid symbol n → m ≡ n

-- look-ups of symbols among these entries find the cells of a grid
pub record IsIndexOf (entries : List (Symbol × Cell)) (grid : List (Option Symbol)) : Type 0 where
  pub found : (symbol : Symbol) → lookup (same_symbol symbol) entries ≡ cell_in grid symbol

-- what holds of every case
pub record IsCase (case : CaseValues) : Type 0 where
  pub number : (1 ≤ case.number) × (case.number ≤ 65535)
  pub cells : length case.grid ≡ ROWS * COLUMNS
  pub distinct : IsDistinct case.grid
  pub space : IsCell case.space
  pub space_blank : symbol_at case case.space ≡ None
  pub fills : (1 ≤ length case.fill) × (length case.fill ≤ 4)
  pub fill : All IsCell case.fill
  pub fill_blank : All (λ cell. symbol_at case cell ≡ None) case.fill
