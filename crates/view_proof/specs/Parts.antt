-- Parts of a proof's text: columns, characters of the copy, widths in points.
use Rattle.std.specs.Prelude.{ℕ, ◌+◌, ◌-◌, ◌*◌, ◌/◌, ◌%◌, Bool, true, false, ◌||◌, ◌==◌, nat_lt, List, [], ◌∷◌, ◌++◌}
use Rattle.std.specs.Prelude.{length, map, take, drop, replicate, codes, if◌then◌else◌}
use Rattle.std.specs.Fmt.{decimal}
use Rattle.std.specs.Str.{encode_utf8_all}
use Rattle.desk_ops.specs.declared.op.Symbol.{Symbol}
use Rattle.text_copy.specs.Plain.{all_shown, directional_name, is_directional, shown}
use Rattle.text_copy.specs.Writing.{quoted, text_bytes}
use Rattle.desk_lines.specs.declared.words.Word.{Word}
use Rattle.desk_lines.specs.Words.{spelled}
use Rattle.desk_units.specs.declared.Pica.{Pica}
use Rattle.desk_units.specs.Widths.{point_atoms}

-- ---- columns

-- a character so many times
abbrev pub many : ℕ → ℕ → List ℕ
many count ch = encode_utf8_all (replicate count ch)

-- at the right of a column of so many places
abbrev pub right : ℕ → List ℕ → List ℕ
right width text = many (width - length text) 32 ++ text

-- at its left
abbrev pub left : ℕ → List ℕ → List ℕ
left width text = text ++ many (width - length text) 32

-- ---- the copy

-- symbols as they are shown, with the marks of their styles, as an export has them
abbrev pub marked_text : List Symbol → List ℕ
marked_text symbols = text_bytes (all_shown symbols)

-- a character as it is shown, behind a backslash where it is a mark or a backslash
abbrev pub shown_quoted : ℕ → List ℕ
shown_quoted c = if is_directional c then directional_name c else quoted c

-- symbols by their characters as they are shown, without their styles
abbrev pub symbols_text : List Symbol → List ℕ
symbols_text [] = []
symbols_text (s ∷ symbols) = encode_utf8_all (map (λ (t : Symbol). t.ch) (shown s)) ++ symbols_text symbols

abbrev pub word_text : List Symbol → Word → List ℕ
word_text copy word = marked_text (spelled copy word)

-- a middle dot for each fill
abbrev pub dots_text : List ℕ → List ℕ
dots_text [] = []
dots_text (count ∷ counts) = many count 183 ++ dots_text counts

abbrev pub has_fills : List ℕ → Bool
has_fills [] = false
has_fills (count ∷ counts) = nat_lt 0 count || has_fills counts

-- the same behind a space, if there are any
abbrev pub fills_text : List ℕ → List ℕ
fills_text counts = if has_fills counts then codes " " ++ dots_text counts else []

-- the place where words begin
abbrev pub begin_of : List Word → ℕ
begin_of [] = 0
begin_of (word ∷ words) = word.from

-- the place behind the last of words, or this one where there is none
abbrev pub end_from : ℕ → List Word → ℕ
end_from here [] = here
end_from here (word ∷ words) = end_from word.to words

abbrev pub end_of : List Word → ℕ
end_of words = end_from 0 words

-- what stands in the copy from the first of words to behind the last
abbrev pub words_text : List Symbol → List Word → List ℕ
words_text copy words = marked_text (take (end_of words - begin_of words) (drop (begin_of words) copy))

-- ---- widths

-- tenths as a number with one decimal
abbrev pub tenths_text : ℕ → List ℕ
tenths_text tenths = decimal (tenths / 10) ++ codes "." ++ decimal (tenths % 10)

-- atoms in points, rounded down to a tenth
abbrev pub points_down : Pica → ℕ → List ℕ
points_down pica atoms = tenths_text (atoms * 10 / point_atoms pica)

-- atoms in points, rounded up to a tenth
abbrev pub points_up : Pica → ℕ → List ℕ
points_up pica atoms = tenths_text ((atoms * 10 + (point_atoms pica - 1)) / point_atoms pica)
