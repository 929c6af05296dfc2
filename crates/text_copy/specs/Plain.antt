-- Characters that a terminal obeys or that turn a line round, written out by their codes.
use Rattle.std.specs.Prelude.{◌≡◌, ℕ, ◌/◌, ◌%◌, Bool, false, ◌&&◌, ◌||◌, ◌==◌, nat_lt, nat_le, List, [], ◌∷◌, ◌++◌, map}
use Rattle.std.specs.Prelude.{get_or, codes, if◌then◌else◌}
use Rattle.std.specs.Str.{chars, encode_utf8_all}
use Rattle.desk_ops.specs.declared.op.Style.{Style}
use Rattle.desk_ops.specs.declared.op.Symbol.{Symbol}
use Rattle.desk_ops.specs.Op.{space}

-- below the space, and from the delete character to U+009F
abbrev pub is_control : ℕ → Bool
is_control c = nat_lt c 32 || (nat_lt 126 c && nat_lt c 160)

-- U+061C; U+200E and U+200F; U+202A to U+202E; U+2066 to U+2069
abbrev pub is_directional : ℕ → Bool
is_directional c =
    (c == 1564) || ((c == 8206) ||
    ((c == 8207) || ((nat_le 8234 c && nat_le c 8238) || (nat_le 8294 c && nat_le c 8297))))

-- a character that is neither
abbrev pub IsPlain : ℕ → Type 0
IsPlain c = (is_control c ≡ false) × (is_directional c ≡ false)

-- a hexadecimal digit, in lower case and as a capital
abbrev pub digit : ℕ → ℕ
digit n = get_or (codes "0123456789abcdef") (n % 16) 0

abbrev pub capital : ℕ → ℕ
capital n = get_or (codes "0123456789ABCDEF") (n % 16) 0

-- as `\x1b`
abbrev pub control_name : ℕ → List ℕ
control_name c = codes "\\x" ++ digit (c / 16) ∷ digit c ∷ []

-- as `<U+202E>`
abbrev pub directional_name : ℕ → List ℕ
directional_name c = codes "<U+" ++ capital (c / 4096) ∷ capital (c / 256) ∷ capital (c / 16) ∷ capital c ∷ codes ">"

-- a character, or the characters of its name
unfoldable pub written_out : ℕ → List ℕ
written_out c = if is_control c then control_name c else if is_directional c then directional_name c else c ∷ []

abbrev pub all_written_out : List ℕ → List ℕ
all_written_out [] = []
all_written_out (c ∷ cs) = written_out c ++ all_written_out cs

-- a text with its characters written out
unfoldable pub plain_text : List ℕ → List ℕ
plain_text text = encode_utf8_all (all_written_out (chars text))

-- ---- copies, in which the end of a line is the only control character

abbrev pub in_style : Style → ℕ → Symbol
in_style style c = record { style = style; ch = c }

-- a symbol as it is shown: the end of a line as a space, and a directional mark by its name in the same style
unfoldable pub shown : Symbol → List Symbol
shown s =
    if s.ch == 10 then space ∷ []
    else if is_directional s.ch then map (in_style s.style) (directional_name s.ch) else s ∷ []

abbrev pub all_shown : List Symbol → List Symbol
all_shown [] = []
all_shown (s ∷ symbols) = shown s ++ all_shown symbols
