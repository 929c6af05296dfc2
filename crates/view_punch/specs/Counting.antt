-- What the steps of counting promise one another.
use Rattle.std.specs.Prelude.{◌≡◌, ◌<◌, ◌≤◌, ℕ, ◌+◌, false, cond, List, length, take, Option, Some, None}
use Rattle.std.specs.Ordering.{is_eq}
use Rattle.std.specs.BTreeMap.{BTreeMap, get}
use Rattle.desk_ops.specs.declared.op.Symbol.{Symbol}
use Rattle.desk_ops.specs.Op.{is_line_feed}
use Rattle.view_punch.specs.declared.sorts.Sort.{Sort}
use Rattle.view_punch.specs.Sorts.{StandsAt, symbol_cmp, wanted_of}

-- a sort with one more place, or with its first
abbrev pub counted : Symbol → ℕ → Option Sort → Sort
counted symbol place None = record { symbol = symbol; wanted = 1; first = place }
counted symbol place (Some sort) = record { symbol = sort.symbol; wanted = sort.wanted + 1; first = sort.first }

-- the symbol has one more place, and each other is as before
abbrev pub Counts : BTreeMap Symbol Sort → BTreeMap Symbol Sort → Symbol → ℕ → Type 0
Counts before after symbol place =
    (q : Symbol)
    → get symbol_cmp after q
    ≡ cond (is_eq (symbol_cmp symbol q)) (Some (counted symbol place (get symbol_cmp before symbol)))
    (get symbol_cmp before q)

-- A symbol that stands at some of the first n places of a copy, and ends no paragraph.
pub record IsTallied (copy : List Symbol) (n : ℕ) (symbol : Symbol) (sort : Sort) : Type 0 where
  pub named : sort.symbol ≡ symbol
  pub printed : is_line_feed symbol ≡ false
  pub wanted : sort.wanted ≡ wanted_of (take n copy) symbol
  pub first : StandsAt copy symbol sort.first
  pub earliest : (place : ℕ) → StandsAt copy symbol place → sort.first ≤ place

-- A symbol that stands at none of them.
pub record IsAbsent (copy : List Symbol) (n : ℕ) (symbol : Symbol) : Type 0 where
  pub wanted : wanted_of (take n copy) symbol ≡ 0
  pub nowhere : (place : ℕ) → place < n → StandsAt copy symbol place → ⊥

-- what is known of a symbol after n places
abbrev pub IsKnown : List Symbol → ℕ → Symbol → Option Sort → Type 0
IsKnown copy n symbol None = is_line_feed symbol ≡ false → IsAbsent copy n symbol
IsKnown copy n symbol (Some sort) = IsTallied copy n symbol sort

-- what is known of each symbol after n places
abbrev pub AreTalliesTo : List Symbol → ℕ → BTreeMap Symbol Sort → Type 0
AreTalliesTo copy n tallies = (q : Symbol) → IsKnown copy n q (get symbol_cmp tallies q)

-- after all places
abbrev pub AreTallies : List Symbol → BTreeMap Symbol Sort → Type 0
AreTallies copy tallies = AreTalliesTo copy (length copy) tallies
