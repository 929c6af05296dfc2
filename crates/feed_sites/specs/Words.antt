-- The words of two copies that differ, in lines.
use Rattle.std.specs.Prelude.{ℕ, ◌-◌, ◌&&◌, nat_lt, if◌then◌else◌, List, [], ◌∷◌, ◌++◌, codes}
use Rattle.std.specs.List.{slice_range}
use Rattle.std.specs.Fmt.{decimal}
use Rattle.desk_ops.specs.declared.op.Symbol.{Symbol}
use Rattle.text_copy.specs.Plain.{all_shown}
use Rattle.text_copy.specs.Writing.{text_bytes}
use Rattle.feed_sites.specs.Stretches.{begins_word}
use Rattle.feed_sites.specs.declared.stretch.Stretch.{Stretch}

-- where the words between two places of a copy end: before the space or line feed that ends the last of them
abbrev pub words_end : List Symbol → ℕ → ℕ → ℕ
words_end copy from to = if nat_lt from to && begins_word copy to then to - 1 else to

abbrev pub words_between : List Symbol → ℕ → ℕ → List Symbol
words_between copy from to = slice_range copy from (words_end copy from to)

-- words as they are shown, behind a space; nothing where there are none
abbrev pub words_text : List Symbol → List ℕ
words_text [] = []
words_text (s ∷ words) = codes " " ++ text_bytes (all_shown (s ∷ words))

-- a line: a sign, a place, and the words from there on
abbrev pub words_line : List ℕ → List Symbol → ℕ → ℕ → List ℕ
words_line sign copy from to = sign ++ decimal from ++ words_text (words_between copy from to) ++ 10 ∷ []

-- the lines of a stretch: what the first copy has there, and what the other has
abbrev pub stretch_lines : List Symbol → List Symbol → Stretch → List ℕ
stretch_lines one other stretch =
    words_line (codes "- ") one stretch.from.one stretch.to.one
    ++ words_line (codes "+ ") other stretch.from.other stretch.to.other

abbrev pub stretches_lines : List Symbol → List Symbol → List Stretch → List ℕ
stretches_lines one other [] = []
stretches_lines one other (stretch ∷ stretches) = stretch_lines one other stretch ++ stretches_lines one other stretches
