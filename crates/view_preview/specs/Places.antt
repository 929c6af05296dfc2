-- The places of the symbols of a text.
use Rattle.std.specs.Prelude.{◌≡◌, ℕ, ◌==◌, ◌&&◌, ◌||◌, Bool, false, not, List, [], ◌∷◌, ◌++◌, length, take, Ok}
use Rattle.std.specs.Prelude.{if◌then◌else◌}
use Rattle.std.specs.Str.{chars}
use Rattle.std.specs.Str.Lossy.{utf8_valid_len}
use Rattle.desk_ops.specs.declared.op.Symbol.{Symbol}
use Rattle.text_copy.specs.declared.fault.Place.{Place}
use Rattle.text_copy.specs.Marks.{is_mark}
use Rattle.text_copy.specs.Reading.{after, reading, start}

-- whether a character ends a symbol: one that is escaped does, and else each but a carriage return and, unless all is
-- plain, a mark and a backslash
abbrev pub ends_symbol : Bool → Bool → ℕ → Bool
ends_symbol plain escaped c = escaped || (not (c == 13) && (plain || not (is_mark c)))

-- whether it escapes the next: a backslash that is not escaped, unless all is plain
abbrev pub escapes : Bool → Bool → ℕ → Bool
escapes plain escaped c = not plain && (not escaped && (c == 92))

-- the places of the characters that end symbols
abbrev pub places_from : Bool → Bool → Place → List ℕ → List Place
places_from plain escaped here [] = []
places_from plain escaped here (c ∷ cs) =
    (if ends_symbol plain escaped c then here ∷ [] else [])
    ++ places_from plain (escapes plain escaped c) (after here c) cs

-- the place behind characters
abbrev pub behind : Place → List ℕ → Place
behind here [] = here
behind here (c ∷ cs) = behind (after here c) cs

-- the characters of a text, of the longest prefix that is UTF-8
abbrev pub chars_in : List ℕ → List ℕ
chars_in bytes = chars (take (utf8_valid_len bytes) bytes)

-- the places of the symbols of a text, and the place behind it
abbrev pub places_in : Bool → List ℕ → List Place
places_in plain bytes = places_from plain false start (chars_in bytes)

abbrev pub end_in : List ℕ → Place
end_in bytes = behind start (chars_in bytes)

-- a text that is a copy has as many places as that has symbols
abbrev pub EachHasPlace : Type 0
EachHasPlace = (plain : Bool) (bytes : List ℕ) (copy : List Symbol) → reading plain bytes ≡ Ok copy
    → length (places_in plain bytes) ≡ length copy
