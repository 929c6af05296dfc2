-- What is written for a copy is read again: its bytes, and the line of an insert.
use Rattle.std.proofs.Common.{◌≡◌, ℕ, ◌+◌, ◌-◌, ◌*◌, ◌<◌, ◌==◌, ◌&&◌, Bool, true, false, List, [], ◌∷◌, ◌++◌, length, Option, Some, None, codes, refl, sym, ap, ◌∙◌, length-append, arith, eqb}
use Rattle.std.proofs.Math.Seq.{take-append_seam, drop-append-add}
use Rattle.std.proofs.Math.Utf8.{scalar, scalars, encode}
use Rattle.std.proofs.lemmas.Bool.Decides.{nat_tests}
use Rattle.std.proofs.lemmas.Bool.{ne_eqb}
use Rattle.std.proofs.lemmas.Str.{chars-encodes, encode_ascii, IsUtf8-append}
use Rattle.std.specs.Char.{IsScalar}
use Rattle.std.specs.List.{position_or_len}
use Rattle.std.specs.Prelude.{if◌then◌else◌, nat_le}
use Rattle.std.specs.Str.{IsUtf8, encode_utf8_all}
use Rattle.desk_ops.specs.declared.op.Style.{Style}
use Rattle.desk_ops.specs.declared.op.Style.TheVariants.{Roman, Italic, SmallCap}
use Rattle.desk_ops.specs.declared.op.Symbol.{Symbol}
use Rattle.desk_ops.proofs.Stamps.{by_cases}
use Rattle.script_answers.specs.declared.copy.Place.TheVariants.{Run}
use Rattle.script_answers.specs.Command.{Insert}
use Rattle.script_answers.specs.Copy.{copy_from, copy_at}
use Rattle.script_answers.specs.Grammar.{verb_of, insert_form, words_of, command_of}
use Rattle.script_answers.specs.Laws.{AreCharacters, CopyIsReadAgain}
use Rattle.script_answers.specs.Reading.{◌>>=◌, is_digit, value_from, at_most, number_of, number_at, word_at}
use Rattle.script_answers.specs.Writing.{opening, quoted, turn, close, copy_chars_from, copy_text}
use Rattle.script_answers.proofs.Again.{read_again}
use Rattle.script_answers.proofs.Loops.{command_of-text}

-- ---- a copy's bytes

scalars_both : (xs ys : List ℕ) → scalars xs ≡ true → scalars ys ≡ true → scalars (xs ++ ys) ≡ true
scalars_both [] ys p q = q
scalars_both (x ∷ xs) ys p q = at (scalar x) (scalars xs) (scalars (xs ++ ys)) p (λ more. scalars_both xs ys more q)
  where
    at : (a b c : Bool) → (a && b) ≡ true → (b ≡ true → c ≡ true) → (a && c) ≡ true
    at true b c p f = f p
    at false b c p f = p

scalars_opening : (style : Style) → scalars (opening style) ≡ true
scalars_opening Roman = refl
scalars_opening Italic = refl
scalars_opening SmallCap = refl

scalars_turn : (run : Option Style) (style : Style) → scalars (turn run style) ≡ true
scalars_turn None style = scalars_opening style
scalars_turn (Some Roman) Roman = refl
scalars_turn (Some Roman) Italic = refl
scalars_turn (Some Roman) SmallCap = refl
scalars_turn (Some Italic) Roman = refl
scalars_turn (Some Italic) Italic = refl
scalars_turn (Some Italic) SmallCap = refl
scalars_turn (Some SmallCap) Roman = refl
scalars_turn (Some SmallCap) Italic = refl
scalars_turn (Some SmallCap) SmallCap = refl

scalars_close : (run : Option Style) → scalars (close run) ≡ true
scalars_close None = refl
scalars_close (Some run) = refl

scalars_quoted : (c : ℕ) → IsScalar c → scalars (quoted c) ≡ true
scalars_quoted c s =
    by_cases (c == 10) (λ e. rw e refl) (λ p. by_cases (c == 92) (λ e. rw (p, e) refl) (λ q. by_cases (c == 34) (λ e. rw (p, q, e) refl) (λ r. rw (p, q, r, s) refl)))

scalars_from : (run : Option Style) (symbols : List Symbol) → AreCharacters symbols → scalars (copy_chars_from run symbols) ≡ true
scalars_from run [] all = scalars_close run
scalars_from run (s ∷ symbols) (first, all) =
    scalars_both (turn run s.style) (quoted s.ch ++ copy_chars_from (Some s.style) symbols) (scalars_turn run s.style)
    (scalars_both (quoted s.ch) (copy_chars_from (Some s.style) symbols) (scalars_quoted s.ch first) (scalars_from (Some s.style) symbols all))

text_utf8 : (symbols : List Symbol) → AreCharacters symbols → IsUtf8 (copy_text symbols)
text_utf8 symbols all = (copy_chars_from None symbols, (scalars_from None symbols all, refl))

bytes_again : (s : Symbol) (symbols : List Symbol) → AreCharacters (s ∷ symbols) → copy_at (Some (copy_text (s ∷ symbols))) ≡ Some (s ∷ symbols)
unfolding copy_at
bytes_again s symbols all = ap (copy_from Run) (chars-encodes (copy_chars_from None (s ∷ symbols)) (scalars_from None (s ∷ symbols) all)) ∙ read_again s symbols

-- ---- a word before a space

abbrev HasNoSpace : List ℕ → Type 0
HasNoSpace [] = Unit {0}
HasNoSpace (b ∷ bytes) = (eqb b 32 ≡ false) × HasNoSpace bytes

space_place : (word rest : List ℕ) → HasNoSpace word → position_or_len (λ b. eqb b 32) (word ++ 32 ∷ rest) ≡ length word
space_place [] rest h = refl
space_place (b ∷ word) rest (first, more) = rw (first, space_place word rest more) (omega (arith))

word_read : (word rest : List ℕ) → HasNoSpace word → word_at (Some (word ++ 32 ∷ rest)) ≡ Some (word, Some rest)
unfolding word_at
word_read word rest h =
    let len : length (word ++ 32 ∷ rest) ≡ length word + (1 + length rest) = (let both = length-append word (32 ∷ rest) in omega (arith, both)) in
    let other : (length word == length (word ++ 32 ∷ rest)) ≡ false = ne_eqb (length word) (length (word ++ 32 ∷ rest)) (λ e. omega (arith, len, e)) in
    rw (space_place word rest h, other, take-append_seam word (32 ∷ rest), drop-append-add word (32 ∷ rest) 1) refl

-- ---- the digits of a number

abbrev AreDigits : List ℕ → Type 0
AreDigits [] = Unit {0}
AreDigits (b ∷ bytes) = (is_digit b ≡ true) × AreDigits bytes

value_digits : (n : ℕ) (word : List ℕ) (m : ℕ) → value_from n word ≡ Some m → AreDigits word
value_digits n [] m h = tt
value_digits n (b ∷ word) m h =
    by_cases (is_digit b) (λ e. (e, value_digits (n * 10 + (b - 48)) word m (sym (on e) ∙ h))) (λ e. absurd (let f : None ≡ Some m = sym (stops e) ∙ h in cc))
  where
    on : is_digit b ≡ true → value_from n (b ∷ word) ≡ value_from (n * 10 + (b - 48)) word
    on e = rw e refl

    stops : is_digit b ≡ false → value_from n (b ∷ word) ≡ None
    stops e = rw e refl

number_digits : (word : List ℕ) (n : ℕ) → number_of word ≡ Some n → AreDigits word
unfolding number_of
number_digits word n h = at (nat_le 1 (length word) && nat_le (length word) 10) (value_from 0 word) refl h
  where
    at : (b : Bool) (v : Option ℕ) → value_from 0 word ≡ v → (if b then (v >>= at_most 4294967295) else None) ≡ Some n → AreDigits word
    at true (Some m) e f = value_digits 0 word m e
    at true None e f = absurd (let g : None ≡ Some n = f in cc)
    at false v e f = absurd (let g : None ≡ Some n = f in cc)

no_space : (word : List ℕ) → AreDigits word → HasNoSpace word
no_space [] h = tt
no_space (b ∷ word) (first, more) = (other b first, no_space word more)
  where
    other : (b : ℕ) → is_digit b ≡ true → eqb b 32 ≡ false
    other b e = grind (arith, nat_tests)

digits_encoded : (word : List ℕ) → AreDigits word → (scalars word ≡ true) × (encode_utf8_all word ≡ word)
digits_encoded [] h = (refl, refl)
digits_encoded (b ∷ word) (first, more) =
    let rest = digits_encoded word more in
    (rw (plain b first, rest.0) refl, rw (encode_ascii b (small b first), rest.1) refl)
  where
    plain : (b : ℕ) → is_digit b ≡ true → scalar b ≡ true
    plain b e = grind (arith, nat_tests)

    small : (b : ℕ) → is_digit b ≡ true → b < 128
    small b e = grind (arith, nat_tests)

digits_utf8 : (word : List ℕ) → AreDigits word → IsUtf8 word
digits_utf8 word h = (word, digits_encoded word h)

number_read : (word rest : List ℕ) (n : ℕ) → number_of word ≡ Some n → number_at (Some (word ++ 32 ∷ rest)) ≡ Some (n, Some rest)
unfolding number_at
number_read word rest n h = rw (word_read word rest (no_space word (number_digits word n h)), h) refl

-- ---- the line of an insert

space_text : IsUtf8 (32 ∷ [])
unfolding encode
space_text = (32 ∷ [], (refl, refl))

insert_text : IsUtf8 (codes "insert ")
unfolding encode
insert_text = (codes "insert ", (refl, refl))

space_utf8 : (rest : List ℕ) → IsUtf8 rest → IsUtf8 (32 ∷ rest)
space_utf8 rest h = IsUtf8-append (32 ∷ []) rest space_text h

insert_read : (site place : List ℕ) (m n : ℕ) (s : Symbol) (symbols : List Symbol) → number_of site ≡ Some m → number_of place ≡ Some n → AreCharacters (s ∷ symbols)
    → insert_form (Some (site ++ 32 ∷ (place ++ 32 ∷ copy_text (s ∷ symbols)))) ≡ Some (Insert m n (s ∷ symbols))
unfolding insert_form
insert_read site place m n s symbols f g all =
    let text = copy_text (s ∷ symbols) in
    rw (number_read site (place ++ 32 ∷ text) m f, number_read place text n g, bytes_again s symbols all) refl

line_words : (rest : List ℕ) → words_of (codes "insert " ++ rest) ≡ insert_form (Some rest)
unfolding words_of verb_of
line_words rest = rw (word_read (codes "insert") rest (refl, (refl, (refl, (refl, (refl, (refl, tt))))))) refl

line_utf8 : (site place : List ℕ) (m n : ℕ) (symbols : List Symbol) → number_of site ≡ Some m → number_of place ≡ Some n → AreCharacters symbols
    → IsUtf8 (codes "insert " ++ (site ++ 32 ∷ (place ++ 32 ∷ copy_text symbols)))
line_utf8 site place m n symbols f g all =
    let text = copy_text symbols in
    let second : IsUtf8 (32 ∷ text) = space_utf8 text (text_utf8 symbols all) in
    let third : IsUtf8 (place ++ 32 ∷ text) = IsUtf8-append place (32 ∷ text) (digits_utf8 place (number_digits place n g)) second in
    IsUtf8-append (codes "insert ") (site ++ 32 ∷ (place ++ 32 ∷ text)) insert_text
    (IsUtf8-append site (32 ∷ (place ++ 32 ∷ text)) (digits_utf8 site (number_digits site m f)) (space_utf8 (place ++ 32 ∷ text) third))

line_again : (site place : List ℕ) (m n : ℕ) (s : Symbol) (symbols : List Symbol) → number_of site ≡ Some m → number_of place ≡ Some n → AreCharacters (s ∷ symbols)
    → command_of (codes "insert " ++ (site ++ 32 ∷ (place ++ 32 ∷ copy_text (s ∷ symbols)))) ≡ Some (Insert m n (s ∷ symbols))
line_again site place m n s symbols f g all =
    let rest = site ++ 32 ∷ (place ++ 32 ∷ copy_text (s ∷ symbols)) in
    command_of-text (codes "insert " ++ rest) (line_utf8 site place m n (s ∷ symbols) f g all) ∙ line_words rest ∙ insert_read site place m n s symbols f g all

pub copy_read_again : CopyIsReadAgain
copy_read_again = record {
  characters = read_again;
  bytes = λ s symbols all. (text_utf8 (s ∷ symbols) all, bytes_again s symbols all);
  line = line_again;
}
