-- Open readings as text: of each its place in the merged copy, and how the copies read there.
use Rattle.std.specs.Prelude.{ℕ, ◌+◌, ◌-◌, Bool, nat_lt, min, if◌then◌else◌, List, [], ◌∷◌, ◌++◌, codes, drop, length}
use Rattle.std.specs.Prelude.{map, take}
use Rattle.std.specs.Fmt.{decimal}
use Rattle.desk_ops.specs.OpSet.{OpSet, union}
use Rattle.desk_ops.specs.declared.op.Symbol.{Symbol}
use Rattle.text_copy.specs.Plain.{all_shown}
use Rattle.text_copy.specs.Writing.{text_bytes}
use Rattle.feed_readings.specs.declared.reading.Reading.{Reading}
use Rattle.feed_readings.specs.declared.reading.Shown.{Shown}
use Rattle.feed_readings.specs.Merged.{in_common, readings_of, shown_list}
use Rattle.feed_readings.specs.Pieces.{part, same_symbol}

abbrev pub symbols_of : List Shown → List Symbol
symbols_of list = map (λ (element : Shown). element.symbol) list

-- how many symbols two lists begin with alike
abbrev pub alike_for : List Shown → List Shown → ℕ
alike_for [] seconds = 0
alike_for (first ∷ firsts) [] = 0
alike_for (first ∷ firsts) (second ∷ seconds) = if same_symbol first.symbol second.symbol
    then alike_for firsts seconds + 1 else 0

-- where what is shown of four lists begins: 8 symbols before the first that differs
abbrev pub begins_at : List Shown → List Shown → List Shown → List Shown → ℕ
begins_at base one other both = min (alike_for both one) (min (alike_for both other) (alike_for both base)) - 8

-- what stands for symbols that are left out
abbrev pub left_out : Bool → List ℕ
left_out any = if any then codes ".." else []

-- up to 24 of some words from a place on as they are shown, behind a space; nothing where there are no words
abbrev pub words_text : ℕ → List Shown → List ℕ
words_text from [] = []
words_text from (element ∷ list) =
    codes " " ++ left_out (nat_lt 0 from) ++ text_bytes (all_shown (symbols_of (take 24 (drop from (element ∷ list)))))
    ++ left_out (nat_lt (from + 24) (length (element ∷ list)))

-- a line: a sign, and what is shown of the words
abbrev pub words_line : List ℕ → ℕ → List Shown → List ℕ
words_line sign from words = sign ++ words_text from words ++ 10 ∷ []

-- how what both make, the one, the other and what they have in common read, from a place on
abbrev pub words_lines : ℕ → List Shown → List Shown → List Shown → List Shown → List ℕ
words_lines from base one other both =
    words_line (codes "  now  ") from both ++ words_line (codes "  here ") from one
    ++ words_line (codes "  there") from other ++ words_line (codes "  was  ") from base

-- the place of a reading in what both make, and how the lists read there
abbrev pub reading_lines : List Shown → List Shown → List Shown → List Shown → Reading → List ℕ
reading_lines base one other both reading =
    let was = part base reading.from.base reading.to.base in
    let here = part one reading.from.one reading.to.one in
    let there = part other reading.from.other reading.to.other in
    let now = part both reading.from.both reading.to.both in
    codes "open at " ++ decimal reading.from.both ++ 10 ∷ []
    ++ words_lines (begins_at was here there now) was here there now

abbrev pub readings_lines : List Shown → List Shown → List Shown → List Shown → List Reading → List ℕ
readings_lines base one other both [] = []
readings_lines base one other both (reading ∷ readings) = reading_lines base one other both reading
    ++ readings_lines base one other both readings

-- what is reported of two sets
abbrev pub reported_of : OpSet → OpSet → List ℕ
reported_of one other =
    readings_lines (shown_list (in_common one other)) (shown_list one) (shown_list other) (shown_list (union one other))
    (readings_of one other)
