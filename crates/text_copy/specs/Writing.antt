-- A copy as text.
use Rattle.std.specs.Prelude.{ℕ, ◌+◌, ◌==◌, List, [], ◌∷◌, ◌++◌, replicate, if◌then◌else◌}
use Rattle.std.specs.Str.{encode_utf8_all}
use Rattle.desk_ops.specs.declared.op.Style.{Style}
use Rattle.desk_ops.specs.declared.op.Style.TheVariants.{Roman}
use Rattle.desk_ops.specs.declared.op.Symbol.{Symbol}
use Rattle.desk_ops.specs.Op.{same_style}
use Rattle.text_copy.specs.Marks.{mark, is_mark}

abbrev pub spaces : ℕ → List ℕ
spaces count = replicate count 32

-- a character, behind a backslash where it is a mark or a backslash
abbrev pub quoted : ℕ → List ℕ
quoted c = if is_mark c then 92 ∷ c ∷ [] else c ∷ []

-- from a run over spaces to the next style: a run that ends closes before the spaces, one that begins opens behind them
abbrev pub turn : Style → ℕ → Style → List ℕ
turn run count style = if same_style run style then spaces count else mark run ++ (spaces count ++ mark style)

-- what a symbol adds to the text, where a run is open and so many spaces are still to be written
abbrev pub put : Style → ℕ → Symbol → List ℕ
put run count s = if s.ch == 32 then [] else turn run count s.style ++ quoted s.ch

abbrev pub run_after : Style → Symbol → Style
run_after run s = if s.ch == 32 then run else s.style

abbrev pub count_after : ℕ → Symbol → ℕ
count_after count s = if s.ch == 32 then count + 1 else 0

abbrev pub text_from : Style → ℕ → List Symbol → List ℕ
text_from run count [] = turn run count Roman
text_from run count (s ∷ copy) = put run count s ++ text_from (run_after run s) (count_after count s) copy

-- the characters of the text
abbrev pub text_of : List Symbol → List ℕ
text_of copy = text_from Roman 0 copy

abbrev pub text_bytes : List Symbol → List ℕ
text_bytes copy = encode_utf8_all (text_of copy)
