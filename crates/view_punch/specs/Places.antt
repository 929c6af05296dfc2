-- The places of a copy at which a symbol stands, and those that are found of the symbols that a case lacks.
use Rattle.std.specs.Prelude.{◌≡◌, ℕ, Bool, true, not, ◌||◌, List, [], ◌∷◌, ◌++◌, length, Option, Some, Vec, is_some}
use Rattle.std.specs.Prelude.{slice_get, if◌then◌else◌}
use Rattle.std.specs.List.{filter, range_with_len}
use Rattle.std.specs.Option.{option_map_or}
use Rattle.std.specs.Ordering.{is_eq}
use Rattle.std.specs.BTreeMap.{BTreeMap, get}
use Rattle.desk_signals.specs.declared.Cell.{Cell}
use Rattle.desk_ops.specs.declared.op.Symbol.{Symbol}
use Rattle.desk_ops.specs.Op.{is_line_feed, is_space}
use Rattle.desk_case.specs.Case.{CaseValues, cell_of, is_held}
use Rattle.view_punch.specs.Sorts.{symbol_cmp}

-- ---- places of a copy

-- those of the first n places of a copy at which a symbol stands, in their order
unfoldable pub places_to : List Symbol → ℕ → Symbol → List ℕ
places_to copy n symbol = filter (λ place. is_held symbol (slice_get copy place)) (range_with_len 0 n)

-- all of them
abbrev pub places_of : List Symbol → Symbol → List ℕ
places_of copy symbol = places_to copy (length copy) symbol

-- ---- what a case has for a symbol

-- the cell that a symbol is cast from: that of the space for the space, and else the one that holds it
abbrev pub cell_for : CaseValues → Symbol → Option Cell
cell_for case symbol = if is_space symbol then Some case.space else cell_of case symbol

-- there is no such cell, of a symbol that is cast: each but the line feed
abbrev pub lacks : CaseValues → Symbol → Bool
lacks case symbol = not (is_line_feed symbol || is_some (cell_for case symbol))

-- ---- places that are found

-- the places of a symbol in a map, which are none where it has no entry
abbrev pub found_of : {A : Type 0} → BTreeMap Symbol (Vec ℕ A) → Symbol → List ℕ
found_of found symbol = option_map_or (λ places. places.items) (get symbol_cmp found symbol) []

-- the symbol has one place more, and each other has those that it had
abbrev pub Adds : {A : Type 0} → BTreeMap Symbol (Vec ℕ A) → BTreeMap Symbol (Vec ℕ A) → Symbol → ℕ → Type 0
Adds before after symbol place =
    (q : Symbol) → found_of after q ≡ found_of before q ++ (if is_eq (symbol_cmp symbol q) then place ∷ [] else [])

-- each symbol that the case lacks has those of the first n places at which it stands
abbrev pub AreFoundTo : {A : Type 0} → List Symbol → CaseValues → ℕ → BTreeMap Symbol (Vec ℕ A) → Type 0
AreFoundTo copy case n found = (q : Symbol) → lacks case q ≡ true → found_of found q ≡ places_to copy n q

-- all of them
abbrev pub AreFound : {A : Type 0} → List Symbol → CaseValues → BTreeMap Symbol (Vec ℕ A) → Type 0
AreFound copy case found = AreFoundTo copy case (length copy) found
