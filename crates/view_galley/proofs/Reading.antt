-- A reader of XML finds the text in an escaped text.
use Rattle.std.proofs.Common.{◌≡◌, ℕ, [], ◌∷◌, List, ◌++◌, Bool, true, false, refl, sym, ap, ap₂, ◌∙◌, eqb-true}
use Rattle.std.specs.Prelude.{map, Some, None, ◌==◌, codes, if◌then◌else◌}
use Rattle.std.specs.Char.{encode_utf8}
use Rattle.std.specs.Str.{encode_utf8_all}
use Rattle.std.proofs.lemmas.Str.{encodes-append}
use Rattle.std.proofs.lemmas.List.{append-nil}
use Rattle.view_galley.specs.Svg.{EscapedIsReadBack, allowed, before, escaped, is_allowed, read_from, read_text}

-- the characters by which a character is written
abbrev chosen : (amp less more quote : Bool) → ℕ → List ℕ
chosen amp less more quote ch =
    if amp then codes "&amp;" else if less then codes "&lt;" else if more then codes "&gt;" else if quote then codes "&quot;" else ch ∷ []

abbrev written : ℕ → List ℕ
written ch = chosen (ch == 38) (ch == 60) (ch == 62) (ch == 34) (allowed ch)

abbrev all_written : List ℕ → List ℕ
all_written [] = []
all_written (ch ∷ chars) = written ch ++ all_written chars

in_bytes : (amp less more quote : Bool) (ch : ℕ)
    → (if amp then codes "&amp;" else if less then codes "&lt;" else if more then codes "&gt;" else if quote then codes "&quot;" else encode_utf8 ch) ≡ encode_utf8_all (chosen amp less more quote ch)
unfolding encode_utf8
in_bytes true less more quote ch = refl
in_bytes false true more quote ch = refl
in_bytes false false true quote ch = refl
in_bytes false false false true ch = refl
in_bytes false false false false ch = sym (append-nil (encode_utf8 ch))

all_in_bytes : (chars : List ℕ) → escaped chars ≡ encode_utf8_all (all_written chars)
all_in_bytes [] = refl
all_in_bytes (ch ∷ chars) =
    ap₂ (λ xs ys. xs ++ ys) (in_bytes (ch == 38) (ch == 60) (ch == 62) (ch == 34) (allowed ch)) (all_in_bytes chars)
    ∙ sym (encodes-append (written ch) (all_written chars))

-- a character is one of its own
other : (ch named : ℕ) (ok : Bool) → (65533 == named) ≡ false → (ch == named) ≡ false → ((if ok then ch else 65533) == named) ≡ false
other ch named true far apart = apart
other ch named false far apart = far

plain : (ch : ℕ) (less amp : Bool) (rest found : List ℕ) → less ≡ false → amp ≡ false → read_from None rest ≡ Some found
    → (if less then None else if amp then read_from (Some []) rest else before (Some ch) (read_from None rest)) ≡ Some (ch ∷ found)
plain ch true amp rest found no_less no_amp is = cc
plain ch false true rest found no_less no_amp is = cc
plain ch false false rest found no_less no_amp is = ap (before (Some ch)) is

-- one character is read
read_one : (ch : ℕ) (amp less more quote : Bool) → (ch == 38) ≡ amp → (ch == 60) ≡ less → (ch == 62) ≡ more → (ch == 34) ≡ quote
    → (rest found : List ℕ) → read_from None rest ≡ Some found
    → read_from None (chosen amp less more quote (allowed ch) ++ rest) ≡ Some (allowed ch ∷ found)
read_one ch true less more quote is_amp is_less is_more is_quote rest found is =
    ap (before (Some 38)) is ∙ ap (λ k. Some (allowed k ∷ found)) (sym (eqb-true ch 38 is_amp))
read_one ch false true more quote is_amp is_less is_more is_quote rest found is =
    ap (before (Some 60)) is ∙ ap (λ k. Some (allowed k ∷ found)) (sym (eqb-true ch 60 is_less))
read_one ch false false true quote is_amp is_less is_more is_quote rest found is =
    ap (before (Some 62)) is ∙ ap (λ k. Some (allowed k ∷ found)) (sym (eqb-true ch 62 is_more))
read_one ch false false false true is_amp is_less is_more is_quote rest found is =
    ap (before (Some 34)) is ∙ ap (λ k. Some (allowed k ∷ found)) (sym (eqb-true ch 34 is_quote))
read_one ch false false false false is_amp is_less is_more is_quote rest found is =
    plain (allowed ch) (allowed ch == 60) (allowed ch == 38) rest found (other ch 60 (is_allowed ch) refl is_less) (other ch 38 (is_allowed ch) refl is_amp) is

pub read_back : EscapedIsReadBack
read_back chars = (all_written chars, all_in_bytes chars, read_all chars)
  where
    read_all : (chars : List ℕ) → read_text (all_written chars) ≡ Some (map allowed chars)
    read_all [] = refl
    read_all (ch ∷ chars) = read_one ch (ch == 38) (ch == 60) (ch == 62) (ch == 34) refl refl refl refl (all_written chars) (map allowed chars) (read_all chars)
