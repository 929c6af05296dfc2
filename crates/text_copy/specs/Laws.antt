-- What holds of the texts of copies.
use Rattle.std.specs.Prelude.{◌≡◌, ◌↔◌, ℕ, true, false, List, [], ◌∷◌, map, Ok}
use Rattle.std.specs.Char.{IsScalar}
use Rattle.std.specs.Str.{IsUtf8, chars, encode_utf8_all}
use Rattle.desk_ops.specs.declared.op.Style.TheVariants.{Roman}
use Rattle.desk_ops.specs.declared.op.Symbol.{Symbol}
use Rattle.desk_ops.specs.Op.{IsSymbol}
use Rattle.text_copy.specs.Writing.{text_bytes}
use Rattle.text_copy.specs.Grammar.{IsText}
use Rattle.text_copy.specs.Reading.{reading}
use Rattle.text_copy.specs.Plain.{IsPlain, all_shown, plain_text}

-- each symbol is lawful
abbrev pub AreLawful : List Symbol → Type 0
AreLawful [] = Unit {0}
AreLawful (s ∷ copy) = IsSymbol s × AreLawful copy

-- each symbol has a character
abbrev pub AreCharacters : List Symbol → Type 0
AreCharacters [] = Unit {0}
AreCharacters (s ∷ copy) = IsScalar s.ch × AreCharacters copy

abbrev pub AreRoman : List Symbol → Type 0
AreRoman [] = Unit {0}
AreRoman (s ∷ copy) = (s.style ≡ Roman) × AreRoman copy

-- what is written for a lawful copy is read again as that copy
abbrev pub TextIsReadAgain : Type 0
TextIsReadAgain = (copy : List Symbol) → AreLawful copy → AreCharacters copy → reading false (text_bytes copy) ≡ Ok copy

-- the characters of a lawful Roman copy, read as plain text, are that copy
abbrev pub PlainIsReadAgain : Type 0
PlainIsReadAgain =
    (copy : List Symbol) → AreLawful copy → AreCharacters copy → AreRoman copy
    → reading true (encode_utf8_all (map (λ s. s.ch) copy)) ≡ Ok copy

-- what is read of characters is what the cases of the grammar allow
abbrev pub ReadIsGrammar : Type 0
ReadIsGrammar = (bytes : List ℕ) (copy : List Symbol) → IsUtf8 bytes
    → (reading false bytes ≡ Ok copy) ↔ IsText Roman (chars bytes) copy

-- ---- what is shown to a person

abbrev pub ArePlain : List ℕ → Type 0
ArePlain [] = Unit {0}
ArePlain (c ∷ cs) = IsPlain c × ArePlain cs

-- a text written out has neither a control character nor a directional mark, and one that has none is itself
abbrev pub TextIsPlain : Type 0
TextIsPlain =
    (text : List ℕ) → IsUtf8 text
    → ArePlain (chars (plain_text text)) × (ArePlain (chars text) → plain_text text ≡ text)

abbrev pub characters : List Symbol → List ℕ
characters symbols = map (λ (s : Symbol). s.ch) symbols

-- nor have the symbols of a copy as they are shown, and those that have none are themselves
abbrev pub CopyIsPlain : Type 0
CopyIsPlain =
    (copy : List Symbol) → AreLawful copy
    → ArePlain (characters (all_shown copy)) × (ArePlain (characters copy) → all_shown copy ≡ copy)
