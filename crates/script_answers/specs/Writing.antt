-- How a copy is written.
use Rattle.std.specs.Prelude.{ℕ, ◌==◌, List, [], ◌∷◌, ◌++◌, Option, Some, None, codes, if◌then◌else◌}
use Rattle.std.specs.Str.{encode_utf8_all}
use Rattle.desk_ops.specs.declared.op.Style.{Style}
use Rattle.desk_ops.specs.declared.op.Style.TheVariants.{Roman, Italic, SmallCap}
use Rattle.desk_ops.specs.declared.op.Symbol.{Symbol}
use Rattle.desk_ops.specs.Op.{same_style}

-- the letter of a style, and a quote
abbrev pub opening : Style → List ℕ
opening Roman = codes "r\""
opening Italic = codes "i\""
opening SmallCap = codes "s\""

-- a character inside quotes: three are always escaped
abbrev pub quoted : ℕ → List ℕ
quoted c = if c == 10 then codes "\\n"
    else (if c == 92 then codes "\\\\" else (if c == 34 then codes "\\\"" else c ∷ []))

-- from a run that is open, or from none, to the next symbol's
abbrev pub turn : Option Style → Style → List ℕ
turn None style = opening style
turn (Some run) style = if same_style run style then [] else codes "\" " ++ opening style

-- the end of what is open
abbrev pub close : Option Style → List ℕ
close None = []
close (Some run) = codes "\""

-- the characters of the runs, where a run may be open: a run ends only where the style changes
abbrev pub copy_chars_from : Option Style → List Symbol → List ℕ
copy_chars_from run [] = close run
copy_chars_from run (s ∷ symbols) = turn run s.style ++ (quoted s.ch ++ copy_chars_from (Some s.style) symbols)

abbrev pub copy_text : List Symbol → List ℕ
copy_text symbols = encode_utf8_all (copy_chars_from None symbols)
