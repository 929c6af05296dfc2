-- The places of a text, each with what surrounds it, as lines.
use Rattle.std.specs.Prelude.{ℕ, ◌+◌, ◌-◌, ◌==◌, List, [], ◌∷◌, ◌++◌, length, take, drop, codes, if◌then◌else◌}
use Rattle.std.specs.Fmt.{decimal}
use Rattle.desk_ops.specs.declared.op.Symbol.{Symbol}
use Rattle.text_copy.specs.Plain.{all_shown}
use Rattle.text_copy.specs.Writing.{text_bytes}
use Rattle.text_copy.specs.Places.{places_of}

-- from 20 symbols before a place to 20 behind a text of so many symbols there, as far as the copy goes
abbrev pub around : ℕ → List Symbol → ℕ → List Symbol
around count copy place = all_shown (drop (place - 20) (take (place + count + 20) copy))

-- a line for a place of a text of so many symbols
abbrev pub place_line : ℕ → List Symbol → ℕ → List ℕ
place_line count copy place = codes "place " ++ decimal place ++ codes ": " ++ text_bytes (around count copy place)
    ++ 10 ∷ []

abbrev pub place_lines : ℕ → List Symbol → List ℕ → List ℕ
place_lines count copy [] = []
place_lines count copy (place ∷ places) = place_line count copy place ++ place_lines count copy places

-- a line for places that have none
abbrev pub more_line : ℕ → List ℕ
more_line more = if more == 0 then [] else codes "and " ++ decimal more ++ codes " more\n"

-- that there is no place, or a line for each of the first 100, and how many more there are
abbrev pub reported_places : ℕ → List Symbol → List ℕ → List ℕ
reported_places count copy [] = codes "no place\n"
reported_places count copy (place ∷ places) =
    place_lines count copy (take 100 (place ∷ places)) ++ more_line (length (place ∷ places) - 100)

-- of a text in a copy
abbrev pub reported_of : List Symbol → List Symbol → List ℕ
reported_of text copy = reported_places (length text) copy (places_of text copy)
