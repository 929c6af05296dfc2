-- The places of a copy at which a text stands.
use Rattle.std.specs.Prelude.{◌≡◌, ◌≤◌, ℕ, ◌+◌, Bool, true, false, ◌&&◌, ◌==◌, List, [], ◌∷◌, length, take, drop}
use Rattle.std.specs.List.{filter, range_with_len}
use Rattle.desk_ops.specs.declared.op.Symbol.{Symbol}
use Rattle.desk_ops.specs.Op.{same_style}

-- A text stands at a place of a copy where it ends within it, and the symbols from there on are its own, by style and
-- character.
abbrev pub IsPlace : List Symbol → List Symbol → ℕ → Type 0
IsPlace text copy place = (place + length text ≤ length copy) × (take (length text) (drop place copy) ≡ text)

-- ---- by tests

abbrev pub same_symbol : Symbol → Symbol → Bool
same_symbol s t = same_style s.style t.style && (s.ch == t.ch)

-- whether a copy begins with a text
abbrev pub begins : List Symbol → List Symbol → Bool
begins [] copy = true
begins (s ∷ text) [] = false
begins (s ∷ text) (t ∷ copy) = same_symbol s t && begins text copy

abbrev pub stands : List Symbol → List Symbol → ℕ → Bool
stands text copy place = begins text (drop place copy)

-- all places of a copy at which a text stands, in their order; those that overlap are places of their own
unfoldable pub places_of : List Symbol → List Symbol → List ℕ
places_of text copy = filter (stands text copy) (range_with_len 0 (length copy + 1))
