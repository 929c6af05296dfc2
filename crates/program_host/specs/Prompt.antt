-- What a reader hands on that answers lines `help` itself.
use Rattle.std.specs.Prelude.{◌≡◌, ◌==◌, ◌&&◌, ◌||◌, ℕ, Bool, true, false, List, [], ◌∷◌, All}
use Rattle.std.specs.Prelude.{Option, Result, if◌then◌else◌}
use Rattle.std.specs.List.{concat}
use Rattle.std.specs.Io.KnownBytes.{Consumes, ReadConsumes}

-- a space or a tab
abbrev pub is_blank : ℕ → Bool
is_blank b = b == 32 || b == 9

abbrev pub after_blanks : List ℕ → List ℕ
after_blanks [] = []
after_blanks (b ∷ bytes) = if is_blank b then after_blanks bytes else b ∷ bytes

-- a line feed alone
abbrev pub is_end : List ℕ → Bool
is_end [] = false
is_end (b ∷ []) = b == 10
is_end (b ∷ next ∷ bytes) = false

-- the word `help`, then blanks or none, then the end of the line
abbrev pub is_help : List ℕ → Bool
is_help (h ∷ e ∷ l ∷ p ∷ bytes) = h == 104 && e == 101 && l == 108 && p == 112 && is_end (after_blanks bytes)
is_help bytes = false

-- a line `help`, with blanks around the word or none
abbrev pub asks_help : List ℕ → Bool
asks_help line = is_help (after_blanks line)

-- whether the next byte begins a line, after these
abbrev pub begins_after : Bool → List ℕ → Bool
begins_after begins [] = begins
begins_after begins (b ∷ bytes) = begins_after (b == 10) bytes

-- The reader lost lines `help`, only where a line begins, and nothing else.
abbrev pub IsHelped : Bool → Option (List ℕ) → Option (List ℕ) → Type 0
IsHelped begins old new = (helps : List (List ℕ)) × All (λ line. asks_help line ≡ true) helps
    × (begins ≡ false → helps ≡ []) × Consumes old new (concat helps)

-- Lines `help` were lost, only where a line begins, and then the read is one of the reader.
abbrev pub HandsOn : {E : Type 0} → Bool → Option (List ℕ) → Option (List ℕ) → Result ℕ E → List ℕ → Type 0
HandsOn begins old new read buf = (mid : Option (List ℕ)) × IsHelped begins old mid × ReadConsumes mid new read buf
