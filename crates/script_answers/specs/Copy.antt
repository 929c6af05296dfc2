-- COPY, read character by character.
use Rattle.std.specs.Prelude.{ℕ, ◌==◌, List, [], ◌∷◌, ◌++◌, Option, Some, None, if◌then◌else◌, option_to_list}
use Rattle.std.specs.Str.{chars}
use Rattle.desk_ops.specs.declared.op.Style.{Style}
use Rattle.desk_ops.specs.declared.op.Style.TheVariants.{Roman, Italic, SmallCap}
use Rattle.desk_ops.specs.declared.op.Symbol.{Symbol}
use Rattle.script_answers.specs.declared.copy.Place.{Place}
use Rattle.script_answers.specs.declared.copy.Place.TheVariants.{Run, Quote, Opened, Inside, Escape, Closed}
use Rattle.script_answers.specs.Reading.{◌>>=◌, Rest}

abbrev pub symbol : Style → ℕ → Symbol
symbol style ch = record { style = style; ch = ch }

-- `r`, `i` and `s`
abbrev pub style_of : ℕ → Option Style
style_of c = if c == 114 then Some Roman
    else (if c == 105 then Some Italic else (if c == 115 then Some SmallCap else None))

-- the character that stands for itself, or begins an escape
abbrev pub inside : Style → ℕ → Place × Option Symbol
inside style c = if c == 92 then (Escape style, None) else (Inside style, Some (symbol style c))

-- `n`, a backslash and a quote
abbrev pub escaped : ℕ → Option ℕ
escaped c = if c == 110 then Some 10 else (if c == 92 then Some 92 else (if c == 34 then Some 34 else None))

-- where reading goes on after a character, and the symbol that it ends
unfoldable pub step : Place → ℕ → Option (Place × Option Symbol)
step Run c = do
  style ← style_of c
  Some (Quote style, None)
step (Quote style) c = if c == 34 then Some (Opened style, None) else None
step (Opened style) c = if c == 34 then None else Some (inside style c)
step (Inside style) c = if c == 34 then Some (Closed, None) else Some (inside style c)
step (Escape style) c = do
  ch ← escaped c
  Some (Inside style, Some (symbol style ch))
step Closed c = if c == 32 then Some (Run, None) else None

abbrev pub ends : Place → Option (List Symbol)
ends Closed = Some []
ends Run = None
ends (Quote style) = None
ends (Opened style) = None
ends (Inside style) = None
ends (Escape style) = None

abbrev pub copy_from : Place → List ℕ → Option (List Symbol)
copy_from place [] = ends place
copy_from place (c ∷ cs) = do
  next ← step place c
  more ← copy_from next.0 cs
  Some (option_to_list next.1 ++ more)

unfoldable pub copy_at : Rest → Option (List Symbol)
copy_at None = None
copy_at (Some bytes) = copy_from Run (chars bytes)
