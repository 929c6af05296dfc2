-- Marks of styles, and what stands for itself only behind a backslash.
use Rattle.std.specs.Prelude.{ℕ, Bool, ◌==◌, ◌||◌, List, [], ◌∷◌}
use Rattle.desk_ops.specs.declared.op.Style.{Style}
use Rattle.desk_ops.specs.declared.op.Style.TheVariants.{Roman, Italic, SmallCap}

-- `_` and `^`; Roman has none
abbrev pub mark : Style → List ℕ
mark Roman = []
mark Italic = 95 ∷ []
mark SmallCap = 94 ∷ []

-- a backslash, `^` and `_`
abbrev pub is_mark : ℕ → Bool
is_mark c = (c == 92) || ((c == 94) || (c == 95))
