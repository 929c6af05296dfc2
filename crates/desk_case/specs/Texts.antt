-- The text of a cell, and the symbol that it stands for.
use Rattle.std.specs.Prelude.{ℕ, Bool, not, ◌==◌, ◌&&◌, if◌then◌else◌, List, [], ◌∷◌, Option, Some, None, option_map}
use Rattle.std.specs.Prelude.{option_and_then}
use Rattle.desk_ops.specs.declared.op.Style.{Style}
use Rattle.desk_ops.specs.declared.op.Style.TheVariants.{Roman, Italic, SmallCap}
use Rattle.desk_ops.specs.declared.op.Symbol.{Symbol}
use Rattle.desk_ops.specs.Op.{is_line_feed, is_space, is_symbol}

-- a lawful symbol that is neither space nor line feed
abbrev pub is_printed : Symbol → Bool
is_printed symbol = is_symbol symbol && not (is_space symbol) && not (is_line_feed symbol)

abbrev pub printed : Style → ℕ → Option Symbol
printed s c = let symbol : Symbol = record { style = s; ch = c } in if is_printed symbol then Some symbol else None

-- the style that `i` or `s` before a colon stands for
abbrev pub style_marked : ℕ → Option Style
style_marked k = if k == 105 then Some Italic else if k == 115 then Some SmallCap else None

-- one character, or `i` or `s`, a colon and one character
abbrev pub symbol_of_text : List ℕ → Option Symbol
symbol_of_text [] = None
symbol_of_text (c ∷ []) = printed Roman c
symbol_of_text (k ∷ d ∷ []) = None
symbol_of_text (k ∷ d ∷ c ∷ []) = if d == 58 then option_and_then (λ s. printed s c) (style_marked k) else None
symbol_of_text (k ∷ d ∷ c ∷ e ∷ more) = None

-- a cell's text: blank, or a symbol
abbrev pub matrix_of_text : List ℕ → Option (Option Symbol)
matrix_of_text [] = Some None
matrix_of_text (c ∷ cs) = option_map Some (symbol_of_text (c ∷ cs))
