-- What is written out is plain.
use Rattle.std.proofs.Common.{◌≡◌, ℕ, zero, suc, ◌+◌, ◌/◌, ◌%◌, ◌<◌, Bool, true, false, cond, ◌==◌, List, [], ◌∷◌, ◌++◌, length, drop, get_or, map, refl, sym, subst, ap, ap₂, ◌∙◌, append_assoc, arith, rules, inl, inr}
use Rattle.std.specs.Prelude.{codes}
use Rattle.std.specs.Str.{chars, encode_utf8_all}
use Rattle.std.specs.List.{AllByRecursion}
use Rattle.std.proofs.Math.Seq.{drop-length}
use Rattle.std.proofs.Math.Utf8.{scalar, scalars}
use Rattle.std.proofs.lemmas.Bool.Decides.{nat_tests}
use Rattle.std.proofs.lemmas.Bool.{and_parts, true≢false}
use Rattle.std.proofs.lemmas.List.{append-nil}
use Rattle.std.proofs.lemmas.Str.{chars-encodes, encodes-append, encodes-chars, scalars-chars}
use Rattle.desk_ops.proofs.Lists.{drop-at}
use Rattle.desk_ops.specs.declared.op.Symbol.{Symbol}
use Rattle.desk_ops.specs.declared.op.Style.{Style}
use Rattle.desk_ops.specs.declared.op.Style.TheVariants.{Roman, Italic, SmallCap}
use Rattle.desk_ops.specs.Op.{IsSymbol, same_style}
use Rattle.text_copy.specs.Plain.{IsPlain, all_shown, all_written_out, capital, control_name, digit, directional_name, in_style, is_control, is_directional, plain_text, shown, written_out}
use Rattle.text_copy.specs.Marks.{is_mark}
use Rattle.text_copy.specs.Writing.{text_from, turn}
use Rattle.text_copy.specs.Laws.{AreLawful, ArePlain, CopyIsPlain, TextIsPlain, characters}

-- ---- writing

-- one more character
pub next_put : (out new whole cs : List ℕ) (c n more : ℕ) → (n < length cs) × (c ≡ get_or cs n c) → new ≡ out ++ encode_utf8_all (written_out c) → more ≡ n + 1
    → out ++ encode_utf8_all (all_written_out (drop n cs)) ≡ whole → new ++ encode_utf8_all (all_written_out (drop more cs)) ≡ whole
next_put out new whole cs c n more t puts next so_far =
    let rest = all_written_out (drop (n + 1) cs) in
    ap₂ (λ a k. a ++ encode_utf8_all (all_written_out (drop k cs))) puts next
    ∙ append_assoc out (encode_utf8_all (written_out c)) (encode_utf8_all rest)
    ∙ ap (λ l. out ++ l) (sym (encodes-append (written_out c) rest))
    ∙ ap (λ l. out ++ encode_utf8_all (all_written_out l)) (sym (drop-at cs n c c t.0 t.1)) ∙ so_far

-- ---- names

-- what holds of the letters of names
abbrev pub IsLetter : ℕ → Type 0
IsLetter c = IsPlain c × ((scalar c ≡ true) × (((c == 32) ≡ false) × (is_mark c ≡ false)))

each : (P : ℕ → Type 0) (xs : List ℕ) → AllByRecursion P xs → (i : ℕ) → i < length xs → P (get_or xs i 0)
each P [] t i lt = absurd (omega arith)
each P (x ∷ xs) t zero lt = t.0
each P (x ∷ xs) t (suc i) lt = each P xs t.1 i (omega arith)

digits_are : AllByRecursion IsLetter (codes "0123456789abcdef")
digits_are = search rules

capitals_are : AllByRecursion IsLetter (codes "0123456789ABCDEF")
capitals_are = search rules

digit_is : (n : ℕ) → IsLetter (digit n)
digit_is n = each IsLetter (codes "0123456789abcdef") digits_are (n % 16) (omega arith)

capital_is : (n : ℕ) → IsLetter (capital n)
capital_is n = each IsLetter (codes "0123456789ABCDEF") capitals_are (n % 16) (omega arith)

-- all of them
pub all_put : (out old text : List ℕ) (n : ℕ) → n ≡ length (chars text) → out ++ encode_utf8_all (all_written_out (drop n (chars text))) ≡ old ++ encode_utf8_all (all_written_out (chars text)) → out ≡ old ++ plain_text text
unfolding plain_text
all_put out old text n is so_far =
    let none : drop n (chars text) ≡ [] = ap (λ k. drop k (chars text)) is ∙ drop-length (chars text) in
    sym (append-nil out) ∙ ap (λ l. out ++ encode_utf8_all (all_written_out l)) (sym none) ∙ so_far

-- ---- laws

choose : (P : List ℕ → Type 0) (b : Bool) (x y : List ℕ) → (b ≡ true → P x) → (b ≡ false → P y) → P (cond b x y)
choose P true x y holds fails = holds refl
choose P false x y holds fails = fails refl

plain-append : (xs ys : List ℕ) → ArePlain xs → ArePlain ys → ArePlain (xs ++ ys)
plain-append [] ys first last = last
plain-append (x ∷ xs) ys first last = (first.0, plain-append xs ys first.1 last)

control_plain : (c : ℕ) → ArePlain (control_name c)
control_plain c = ((refl, refl), ((refl, refl), ((digit_is (c / 16)).0, ((digit_is c).0, tt))))

directional_plain : (c : ℕ) → ArePlain (directional_name c)
directional_plain c =
    ((refl, refl), ((refl, refl), ((refl, refl), ((capital_is (c / 4096)).0, ((capital_is (c / 256)).0, ((capital_is (c / 16)).0, ((capital_is c).0, ((refl, refl), tt))))))))

written_plain : (c : ℕ) → ArePlain (written_out c)
unfolding written_out
written_plain c =
    choose ArePlain (is_control c) _ _ (λ e. control_plain c) (λ other. choose ArePlain (is_directional c) _ _ (λ e. directional_plain c) (λ none. ((other, none), tt)))

all_plain : (cs : List ℕ) → ArePlain (all_written_out cs)
all_plain [] = tt
all_plain (c ∷ cs) = plain-append (written_out c) (all_written_out cs) (written_plain c) (all_plain cs)

all_themselves : (cs : List ℕ) → ArePlain cs → all_written_out cs ≡ cs
unfolding written_out
all_themselves [] are = refl
all_themselves (c ∷ cs) are = rw (are.0.0, are.0.1) (ap (λ l. c ∷ l) (all_themselves cs are.1))

-- ---- its characters are read again

scalars-append : (xs ys : List ℕ) → scalars xs ≡ true → scalars ys ≡ true → scalars (xs ++ ys) ≡ true
scalars-append [] ys first last = last
scalars-append (x ∷ xs) ys first last =
    let parts = and_parts (scalar x) (scalars xs) first in
    rw (parts.0, scalars-append xs ys parts.1 last) refl

control_scalars : (c : ℕ) → scalars (control_name c) ≡ true
control_scalars c = rw ((digit_is (c / 16)).1.0, (digit_is c).1.0) refl

directional_scalars : (c : ℕ) → scalars (directional_name c) ≡ true
directional_scalars c = rw ((capital_is (c / 4096)).1.0, (capital_is (c / 256)).1.0, (capital_is (c / 16)).1.0, (capital_is c).1.0) refl

written_scalars : (c : ℕ) → scalar c ≡ true → scalars (written_out c) ≡ true
unfolding written_out
written_scalars c is =
    choose (λ l. scalars l ≡ true) (is_control c) _ _ (λ e. control_scalars c) (λ other. choose (λ l. scalars l ≡ true) (is_directional c) _ _ (λ e. directional_scalars c) (λ none. rw is refl))

all_scalars : (cs : List ℕ) → scalars cs ≡ true → scalars (all_written_out cs) ≡ true
all_scalars [] are = refl
all_scalars (c ∷ cs) are =
    let parts = and_parts (scalar c) (scalars cs) are in
    scalars-append (written_out c) (all_written_out cs) (written_scalars c parts.0) (all_scalars cs parts.1)

pub text_is_plain : TextIsPlain
unfolding plain_text
text_is_plain text is =
    let again : chars (plain_text text) ≡ all_written_out (chars text) = chars-encodes (all_written_out (chars text)) (all_scalars (chars text) (scalars-chars text is)) in
    (subst ArePlain (sym again) (all_plain (chars text)), λ are. ap encode_utf8_all (all_themselves (chars text) are) ∙ encodes-chars text is)

-- ---- copies

characters-append : (xs ys : List Symbol) → characters (xs ++ ys) ≡ characters xs ++ characters ys
characters-append [] ys = refl
characters-append (x ∷ xs) ys = ap (λ l. x.ch ∷ l) (characters-append xs ys)

choose_symbols : (P : List Symbol → Type 0) (b : Bool) (x y : List Symbol) → (b ≡ true → P x) → (b ≡ false → P y) → P (cond b x y)
choose_symbols P true x y holds fails = holds refl
choose_symbols P false x y holds fails = fails refl

-- a lawful symbol that is no line feed is no control character
no_control : (s : Symbol) → IsSymbol s → (s.ch == 10) ≡ false → is_control s.ch ≡ false
no_control s (inl (roman, inl is)) other = absurd (true≢false (sym (ap (λ c. c == 10) is) ∙ other))
no_control s (inl (roman, inr is)) other = ap is_control is
no_control s (inr (above, inl below)) other = grind (arith, nat_tests)
no_control s (inr (above, inr beyond)) other = grind (arith, nat_tests)

shown_plain : (s : Symbol) → IsSymbol s → ArePlain (characters (shown s))
unfolding shown
shown_plain s is =
    choose_symbols (λ l. ArePlain (characters l)) (s.ch == 10) _ _ (λ e. ((refl, refl), tt))
    (λ other. choose_symbols (λ l. ArePlain (characters l)) (is_directional s.ch) _ _ (λ e. directional_plain s.ch) (λ none. ((no_control s is other, none), tt)))

copy_plain : (copy : List Symbol) → AreLawful copy → ArePlain (characters (all_shown copy))
copy_plain [] are = tt
copy_plain (s ∷ copy) are =
    subst ArePlain (sym (characters-append (shown s) (all_shown copy))) (plain-append (characters (shown s)) (characters (all_shown copy)) (shown_plain s are.0) (copy_plain copy are.1))

no_line_feed : (c : ℕ) → is_control c ≡ false → (c == 10) ≡ false
no_line_feed c e = grind (arith, nat_tests)

copy_itself : (copy : List Symbol) → ArePlain (characters copy) → all_shown copy ≡ copy
unfolding shown
copy_itself [] are = refl
copy_itself (s ∷ copy) are = rw (no_line_feed s.ch are.0.0, are.0.1) (ap (λ l. s ∷ l) (copy_itself copy are.1))

pub copy_is_plain : CopyIsPlain
copy_is_plain copy are = (copy_plain copy are, copy_itself copy)

-- ---- a name in a text with marks

same_itself : (style : Style) → same_style style style ≡ true
same_itself Roman = refl
same_itself Italic = refl
same_itself SmallCap = refl

letters_text : (style : Style) (name : List ℕ) (rest : List Symbol) → AllByRecursion IsLetter name → text_from style 0 (map (in_style style) name ++ rest) ≡ name ++ text_from style 0 rest
letters_text style [] rest are = refl
letters_text style (c ∷ name) rest are = rw (are.0.1.1.0, same_itself style, are.0.1.1.1) (ap (λ l. c ∷ l) (letters_text style name rest are.1))

letter_is : (c : ℕ) → IsPlain c → scalar c ≡ true → (c == 32) ≡ false → is_mark c ≡ false → IsLetter c
letter_is c plain is other unmarked = (plain, (is, (other, unmarked)))

name_letters : (c : ℕ) → AllByRecursion IsLetter (85 ∷ 43 ∷ capital (c / 4096) ∷ capital (c / 256) ∷ capital (c / 16) ∷ capital c ∷ 62 ∷ [])
name_letters c =
    (letter_is 85 (refl, refl) refl refl refl, (letter_is 43 (refl, refl) refl refl refl, (capital_is (c / 4096), (capital_is (c / 256), (capital_is (c / 16), (capital_is c, (letter_is 62 (refl, refl) refl refl refl, tt)))))))

-- the name of a mark is written as it is, behind what turns to its style
pub name_text : (run : Style) (count : ℕ) (style : Style) (c : ℕ) (rest : List Symbol)
    → text_from run count (map (in_style style) (directional_name c) ++ rest) ≡ (turn run count style ++ directional_name c) ++ text_from style 0 rest
name_text run count style c rest =
    ap (λ l. (turn run count style ++ 60 ∷ []) ++ l) (letters_text style (85 ∷ 43 ∷ capital (c / 4096) ∷ capital (c / 256) ∷ capital (c / 16) ∷ capital c ∷ 62 ∷ []) rest (name_letters c))
    ∙ simp append_assoc
