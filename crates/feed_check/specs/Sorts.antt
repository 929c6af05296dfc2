-- The sorts of a case: its cells that hold a symbol.
use Rattle.std.specs.Prelude.{ℕ, ◌+◌, if◌then◌else◌, List, [], ◌∷◌, Option, Some, None, is_some}
use Rattle.desk_ops.specs.declared.op.Symbol.{Symbol}
use Rattle.desk_case.specs.Case.{symbol_in}
use Rattle.desk_case.specs.Names.{cell_of_place}

-- how many cells of a grid hold a symbol
abbrev pub sorts : List (Option Symbol) → ℕ
sorts [] = 0
sorts (None ∷ grid) = sorts grid
sorts (Some symbol ∷ grid) = 1 + sorts grid

-- one where the cell at a place holds a symbol, else none
abbrev pub sort_at : List (Option Symbol) → ℕ → ℕ
sort_at grid place = if is_some (symbol_in grid (cell_of_place place)) then 1 else 0
