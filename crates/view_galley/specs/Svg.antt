-- Pictures: characters as they are written in XML, in a text or between the quotes of an attribute, numbers and
-- attributes, and what a reader of XML makes of an escaped text.
use Rattle.std.specs.Prelude.{◌≡◌, ℕ, Bool, not, ◌==◌, ◌||◌, ◌&&◌, nat_le, ◌/◌, ◌%◌, List, [], ◌∷◌, ◌++◌, map, codes}
use Rattle.std.specs.Prelude.{Option, Some, None, option_map, if◌then◌else◌}
use Rattle.std.specs.Char.{encode_utf8}
use Rattle.std.specs.Str.{encode_utf8_all, bytes_eq}
use Rattle.std.specs.Fmt.{decimal}

-- XML 1.0 allows tab, line feed and carriage return, and else each character from the space on but U+FFFE and U+FFFF.
abbrev pub is_allowed : ℕ → Bool
is_allowed ch = ((ch == 9) || ((ch == 10) || (ch == 13))) || (nat_le 32 ch && (not (ch == 65534) && not (ch == 65535)))

-- the character, or U+FFFD in place of one that is not allowed
abbrev pub allowed : ℕ → ℕ
allowed ch = if is_allowed ch then ch else 65533

-- a character as it is written: `&`, `<`, `>` and `"` by their names
abbrev pub escaped_char : ℕ → List ℕ
escaped_char ch =
    if ch == 38 then codes "&amp;"
    else if ch == 60 then codes "&lt;"
    else if ch == 62 then codes "&gt;"
    else if ch == 34 then codes "&quot;"
    else encode_utf8 (allowed ch)

-- characters one after the other
abbrev pub escaped : List ℕ → List ℕ
escaped [] = []
escaped (ch ∷ chars) = escaped_char ch ++ escaped chars

-- hundredths as a number with two decimals
abbrev pub hundredths_text : ℕ → List ℕ
hundredths_text n = decimal (n / 100) ++ (codes "." ++ (decimal (n / 10 % 10) ++ decimal (n % 10)))

-- an attribute whose value is a number of hundredths, behind a space
abbrev pub attribute_text : List ℕ → ℕ → List ℕ
attribute_text name n = codes " " ++ (name ++ (codes "=\"" ++ (hundredths_text n ++ codes "\"")))

-- what ends a text and its line
unfoldable pub text_end : List ℕ
text_end = codes "</text>\n"

-- the character of this name between `&` and `;`
abbrev pub named : List ℕ → Option ℕ
named name =
    if bytes_eq name (codes "amp") then Some 38
    else if bytes_eq name (codes "lt") then Some 60
    else if bytes_eq name (codes "gt") then Some 62
    else if bytes_eq name (codes "quot") then Some 34
    else None

-- a character before those that were read, if both were
abbrev pub before : Option ℕ → Option (List ℕ) → Option (List ℕ)
before None read = None
before (Some ch) read = option_map (λ chars. ch ∷ chars) read

-- The text that a reader of XML finds in characters: `<` would begin a tag, and a `&` begins a name, which is to be
-- known and to end. Within a name the characters of it so far are given.
abbrev pub read_from : Option (List ℕ) → List ℕ → Option (List ℕ)
read_from None [] = Some []
read_from (Some name) [] = None
read_from None (ch ∷ chars) =
    if ch == 60 then None
    else if ch == 38 then read_from (Some []) chars
    else before (Some ch) (read_from None chars)
read_from (Some name) (ch ∷ chars) =
    if ch == 59 then before (named name) (read_from None chars)
    else read_from (Some (name ++ ch ∷ [])) chars

abbrev pub read_text : List ℕ → Option (List ℕ)
read_text chars = read_from None chars

-- An escaped text is the UTF-8 of characters in which a reader of XML finds the text, with U+FFFD in place of each
-- character that XML does not allow. So no tag begins in it, and each `&` begins a name.
abbrev pub EscapedIsReadBack : Type 0
EscapedIsReadBack = (chars : List ℕ)
    → (written : List ℕ) × (escaped chars ≡ encode_utf8_all written) × (read_text written ≡ Some (map allowed chars))
