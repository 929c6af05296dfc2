-- Second looks: what is no fault of a copy or its galley, and yet seldom meant.
use Rattle.std.specs.Prelude.{ℕ, ◌+◌, ◌-◌, Bool, true, false, not, ◌&&◌, ◌||◌, ◌==◌, nat_le, nat_lt, List, [], ◌∷◌}
use Rattle.std.specs.Prelude.{◌++◌, length, map, take, drop, slice_get, unwrap_or, if◌then◌else◌}
use Rattle.std.specs.List.{flat_map, prefix_len, range_with_len, zip}
use Rattle.std.specs.Option.{option_map_or}
use Rattle.desk_ops.specs.Op.{is_space}
use Rattle.desk_ops.specs.declared.op.Symbol.{Symbol}
use Rattle.text_copy.specs.Places.{same_symbol}
use Rattle.desk_lines.specs.declared.words.Word.{Word}
use Rattle.desk_lines.specs.Words.{spelled, words_of}
use Rattle.view_galley.specs.Values.{LineValues}
use Rattle.view_preview.specs.declared.looks.Look.{Look}
use Rattle.view_preview.specs.declared.looks.LookKind.{LookKind}
use Rattle.view_preview.specs.declared.looks.LookKind.TheVariants as kinds

-- a look of this kind at so many symbols from a place of the copy on, where the test passes
abbrev pub look_if : Bool → LookKind → (place len : ℕ) → List Look
look_if test kind place len = if test then record { kind = kind; place = place; len = len } ∷ [] else []

-- ---- at a place of the copy

-- whether a space is there
abbrev pub has_space : List Symbol → ℕ → Bool
has_space copy place = option_map_or is_space (slice_get copy place) false

-- whether this character is there, of any style
abbrev pub has_char : List Symbol → ℕ → ℕ → Bool
has_char copy place ch = option_map_or (λ (s : Symbol). s.ch == ch) (slice_get copy place) false

-- whether a space is there, none before it and one behind it
abbrev pub begins_spaces : List Symbol → ℕ → Bool
begins_spaces copy place =
    has_space copy place && not (nat_lt 0 place && has_space copy (place - 1)) && has_space copy (place + 1)

-- the row of spaces that begins there, of two or more
abbrev pub spaces_at : List Symbol → ℕ → List Look
spaces_at copy place =
    look_if (begins_spaces copy place) kinds.TwoSpaces place (prefix_len is_space (drop place copy))

-- a space that has a point or a comma behind it
abbrev pub before_point_at : List Symbol → ℕ → List Look
before_point_at copy place =
    look_if (has_space copy place && has_char copy (place + 1) 46) kinds.SpaceBeforePoint place 2
    ++ look_if (has_space copy place && has_char copy (place + 1) 44) kinds.SpaceBeforeComma place 2

-- a quote that is neither an opening nor a closing one
abbrev pub quote_at : List Symbol → ℕ → List Look
quote_at copy place = look_if (has_char copy place 39 || has_char copy place 34) kinds.StraightQuote place 1

-- what is found at each place of the copy, places rising
abbrev pub at_places : (List Symbol → ℕ → List Look) → List Symbol → List Look
at_places found copy = flat_map (found copy) (range_with_len 0 (length copy))

-- ---- at words

-- whether two texts have the same symbols, by style and character
abbrev pub are_alike : List Symbol → List Symbol → Bool
are_alike [] [] = true
are_alike [] (t ∷ more) = false
are_alike (s ∷ symbols) [] = false
are_alike (s ∷ symbols) (t ∷ more) = same_symbol s t && are_alike symbols more

-- whether two words of the copy are one word twice
abbrev pub is_again : List Symbol → Word → Word → Bool
is_again copy word other = are_alike (spelled copy word) (spelled copy other)

-- a word that has symbols
abbrev pub has_symbols : Word → Bool
has_symbols word = nat_lt word.from word.to

-- a word that ends with a hyphen and has another symbol: the hyphen, and the space behind the word
abbrev pub hyphen_at : List Symbol → Word → List Look
hyphen_at copy word =
    look_if (nat_le 2 (word.to - word.from) && has_char copy (word.to - 1) 45) kinds.HyphenInside (word.to - 1) 2

-- each word of a line but the last
abbrev pub hyphens_of : List Symbol → List Word → List Look
hyphens_of copy words = flat_map (hyphen_at copy) (take (length words - 1) words)

-- a word and the one behind it, where that is the same word
abbrev pub again_at : List Symbol → Word × Word → List Look
again_at copy pair =
    look_if (has_symbols pair.1 && is_again copy pair.0 pair.1) kinds.WordRepeated pair.1.from (pair.1.to - pair.1.from)

-- each word of a paragraph with the one behind it; one space is between
abbrev pub repeated_of : List Symbol → List Word → List Look
repeated_of copy words = flat_map (again_at copy) (zip words (drop 1 words))

-- the last of words; of none, a word without symbols
abbrev pub last_word : List Word → Word
last_word words = unwrap_or (slice_get words (length words - 1)) (record { from = 0; to = 0 })

-- the last words of three lines, where they are one word that has symbols: the third
abbrev pub third_at : List Symbol → (Word × Word) × Word → List Look
third_at copy ends =
    let third = ends.1 in
    look_if (has_symbols third && (is_again copy ends.0.0 third && is_again copy ends.0.1 third)) kinds.LinesEndAlike
    third.from (third.to - third.from)

-- of the last words of lines, each with the two before it
abbrev pub alike_of : List Symbol → List Word → List Look
alike_of copy ends = flat_map (third_at copy) (zip (zip ends (drop 1 ends)) (drop 2 ends))

-- ---- of a copy and the lines of its galley

abbrev pub hyphens : List Symbol → List LineValues → List Look
hyphens copy lines = flat_map (λ (line : LineValues). hyphens_of copy line.words) lines

abbrev pub repeated : List Symbol → List Look
repeated copy = flat_map (repeated_of copy) (words_of copy)

abbrev pub alike_ends : List Symbol → List LineValues → List Look
alike_ends copy lines = alike_of copy (map (λ (line : LineValues). last_word line.words) lines)

-- all looks: kind by kind, and those of a kind by place
abbrev pub looks_of : List Symbol → List LineValues → List Look
looks_of copy lines =
    hyphens copy lines ++ at_places spaces_at copy ++ at_places before_point_at copy ++ at_places quote_at copy
    ++ repeated copy ++ alike_ends copy lines
