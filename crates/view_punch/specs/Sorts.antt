-- The sorts that a copy needs: its symbols but the line feed, each with its places.
use Rattle.std.specs.Prelude.{◌≡◌, ◌≤◌, ℕ, false, List, map, All, Some, slice_get, count_by}
use Rattle.std.specs.declared.cmp.Ordering.{Ordering}
use Rattle.std.specs.List.Sorted.{IsStrictlySortedBy}
use Rattle.desk_ops.specs.declared.op.Symbol.{Symbol}
use Rattle.desk_ops.specs.contracts.op.SymbolOrd.TheImpl as symbol_ord
use Rattle.desk_ops.specs.Op.{is_line_feed}
use Rattle.desk_case.specs.Case.{same_symbol}
use Rattle.view_punch.specs.declared.sorts.Sort.{Sort}

-- the order of symbols: by style, Roman, italic, small capital, and then by character
abbrev pub symbol_cmp : Symbol → Symbol → Ordering
symbol_cmp = (symbol_ord.ghosts).cmp

abbrev pub StandsAt : List Symbol → Symbol → ℕ → Type 0
StandsAt copy symbol place = slice_get copy place ≡ Some symbol

-- at how many places of a copy a symbol stands
abbrev pub wanted_of : List Symbol → Symbol → ℕ
wanted_of copy symbol = count_by (same_symbol symbol) copy

-- A symbol of the copy that ends no paragraph, how often it is wanted, and the first place where it stands.
pub record IsSortOf (copy : List Symbol) (sort : Sort) : Type 0 where
  pub printed : is_line_feed sort.symbol ≡ false
  pub wanted : sort.wanted ≡ wanted_of copy sort.symbol
  pub first : StandsAt copy sort.symbol sort.first
  pub earliest : (place : ℕ) → StandsAt copy sort.symbol place → sort.first ≤ place

-- one of the sorts is for this symbol
abbrev pub HasSort : List Sort → Symbol → Type 0
HasSort sorts symbol = (n : ℕ) × (sort : Sort) × (slice_get sorts n ≡ Some sort) × (sort.symbol ≡ symbol)

-- Each is a sort of the copy, each symbol of the copy that ends no paragraph has one, and their symbols ascend
-- strictly.
pub record AreSortsOf (copy : List Symbol) (sorts : List Sort) : Type 0 where
  pub each : All (IsSortOf copy) sorts
  pub whole : (symbol : Symbol) (place : ℕ) → StandsAt copy symbol place → is_line_feed symbol ≡ false
      → HasSort sorts symbol
  pub ascending : IsStrictlySortedBy symbol_cmp (map (λ sort. sort.symbol) sorts)
