-- What is written for a copy is read again as that copy.
use Rattle.std.proofs.Common.{◌≡◌, ℕ, zero, suc, ◌+◌, ◌==◌, ◌&&◌, Bool, true, false, List, [], ◌∷◌, ◌++◌, map, Option, Some, None, Ok, refl, sym, ap, subst, ◌∙◌, append_assoc, inl, inr, arith}
use Rattle.std.specs.Prelude.{replicate, option_to_list}
use Rattle.std.specs.Char.{IsScalar}
use Rattle.std.specs.Str.{encode_utf8_all}
use Rattle.std.proofs.Math.Utf8.{scalar, scalars}
use Rattle.std.proofs.lemmas.Bool.Decides.{nat_tests}
use Rattle.std.proofs.lemmas.List.{append-nil, replicate_more}
use Rattle.std.proofs.lemmas.Str.{chars-encodes}
use Rattle.std.proofs.lemmas.Bool.{eqb-true, ne_eqb}
use Rattle.desk_ops.specs.declared.op.Style.{Style}
use Rattle.desk_ops.specs.declared.op.Style.TheVariants.{Roman, Italic, SmallCap}
use Rattle.desk_ops.specs.declared.op.Symbol.{Symbol}
use Rattle.desk_ops.specs.Op.{IsSymbol, space, line_feed}
use Rattle.desk_ops.proofs.Lawful.{symbol_true}
use Rattle.desk_ops.proofs.Stamps.{by_cases}
use Rattle.text_copy.specs.declared.fault.Place.{Place}
use Rattle.text_copy.specs.declared.reader.State.TheVariants.{Within}
use Rattle.text_copy.specs.Marks.{mark, is_mark}
use Rattle.text_copy.specs.Writing.{spaces, quoted, turn, text_from, text_of, text_bytes}
use Rattle.text_copy.specs.Reading.{marked, step, after, start, read_from, reading}
use Rattle.text_copy.specs.Laws.{AreLawful, AreCharacters, AreRoman}
use Rattle.text_copy.specs.Grammar.{symbol}
use Rattle.text_copy.proofs.Loops.{whole_read}

-- in a style the characters are read as the copy, wherever they stand
abbrev pub Reads : Bool → Style → List ℕ → List Symbol → Type 0
Reads plain style cs copy = (here : Place) → read_from plain true (Within style) here cs ≡ Ok copy

pub steps_on : (plain : Bool) (style to : Style) (c : ℕ) (o : Option Symbol) (cs : List ℕ) (copy : List Symbol) → ((here : Place) → step plain (Within style) here c ≡ Ok (Within to, o)) → Reads plain to cs copy
    → Reads plain style (c ∷ cs) (option_to_list o ++ copy)
steps_on plain style to c o cs copy stepped reads here = rw (stepped here, reads (after here c)) refl

pub one_space : (style : Style) (cs : List ℕ) (copy : List Symbol) → Reads false style cs copy → Reads false style (32 ∷ cs) (space ∷ copy)
unfolding step marked
one_space style cs copy reads = steps_on false style style 32 (Some space) cs copy (stepped style) reads
  where
    stepped : (style : Style) (here : Place) → step false (Within style) here 32 ≡ Ok (Within style, Some space)
    stepped style here = refl

all_spaces : (count : ℕ) (style : Style) (cs : List ℕ) (copy : List Symbol) → Reads false style cs copy → Reads false style (spaces count ++ cs) (replicate count space ++ copy)
all_spaces zero style cs copy reads = reads
all_spaces (suc n) style cs copy reads = one_space style (spaces n ++ cs) (replicate n space ++ copy) (all_spaces n style cs copy reads)

-- ---- marks

pub closes : (style : Style) (cs : List ℕ) (copy : List Symbol) → Reads false Roman cs copy → Reads false style (mark style ++ cs) copy
unfolding step marked
closes Roman cs copy reads = reads
closes Italic cs copy reads = steps_on false Italic Roman 95 None cs copy stepped reads
  where
    stepped : (here : Place) → step false (Within Italic) here 95 ≡ Ok (Within Roman, None)
    stepped here = refl
closes SmallCap cs copy reads = steps_on false SmallCap Roman 94 None cs copy stepped reads
  where
    stepped : (here : Place) → step false (Within SmallCap) here 94 ≡ Ok (Within Roman, None)
    stepped here = refl

pub opens : (style : Style) (cs : List ℕ) (copy : List Symbol) → Reads false style cs copy → Reads false Roman (mark style ++ cs) copy
unfolding step marked
opens Roman cs copy reads = reads
opens Italic cs copy reads = steps_on false Roman Italic 95 None cs copy stepped reads
  where
    stepped : (here : Place) → step false (Within Roman) here 95 ≡ Ok (Within Italic, None)
    stepped here = refl
opens SmallCap cs copy reads = steps_on false Roman SmallCap 94 None cs copy stepped reads
  where
    stepped : (here : Place) → step false (Within Roman) here 94 ≡ Ok (Within SmallCap, None)
    stepped here = refl

-- a run that closes, spaces, and a run that opens
turned_over : (run : Style) (count : ℕ) (style : Style) (cs : List ℕ) (copy : List Symbol) → Reads false style cs copy
    → Reads false run ((mark run ++ (spaces count ++ mark style)) ++ cs) (replicate count space ++ copy)
turned_over run count style cs copy reads here =
    ap (read_from false true (Within run) here) (append_assoc (mark run) (spaces count ++ mark style) cs ∙ ap (λ xs. mark run ++ xs) (append_assoc (spaces count) (mark style) cs))
    ∙ closes run (spaces count ++ (mark style ++ cs)) (replicate count space ++ copy) (all_spaces count Roman (mark style ++ cs) copy (opens style cs copy reads)) here

turns : (run : Style) (count : ℕ) (style : Style) (cs : List ℕ) (copy : List Symbol) → Reads false style cs copy → Reads false run (turn run count style ++ cs) (replicate count space ++ copy)
turns Roman count Roman cs copy reads = all_spaces count Roman cs copy reads
turns Italic count Italic cs copy reads = all_spaces count Italic cs copy reads
turns SmallCap count SmallCap cs copy reads = all_spaces count SmallCap cs copy reads
turns Roman count Italic cs copy reads = turned_over Roman count Italic cs copy reads
turns Roman count SmallCap cs copy reads = turned_over Roman count SmallCap cs copy reads
turns Italic count Roman cs copy reads = turned_over Italic count Roman cs copy reads
turns Italic count SmallCap cs copy reads = turned_over Italic count SmallCap cs copy reads
turns SmallCap count Roman cs copy reads = turned_over SmallCap count Roman cs copy reads
turns SmallCap count Italic cs copy reads = turned_over SmallCap count Italic cs copy reads

-- ---- characters

no_mark : (c : ℕ) → is_mark c ≡ false → ((c == 92) ≡ false) × ((c == 95) ≡ false) × ((c == 94) ≡ false)
no_mark c e = (grind (arith, nat_tests), grind (arith, nat_tests), grind (arith, nat_tests))

pub no_return : (s : Symbol) → IsSymbol s → (s.ch == 13) ≡ false
no_return s (inl (roman, inl e)) = rw e refl
no_return s (inl (roman, inr e)) = rw e refl
no_return s (inr (more, wide)) = ne_eqb s.ch 13 (λ e. omega (arith, e, more))

pub is_feed : (s : Symbol) → IsSymbol s → (s.ch == 10) ≡ true → s ≡ line_feed
is_feed s (inl (roman, inl e)) same = λ i. record { style = roman i; ch = e i }
is_feed s (inl (roman, inr e)) same = absurd (omega (arith, e, eqb-true s.ch 10 same))
is_feed s (inr (more, wide)) same = absurd (omega (arith, more, eqb-true s.ch 10 same))

pub is_blank : (s : Symbol) → IsSymbol s → (s.ch == 32) ≡ true → s ≡ space
is_blank s (inl (roman, inr e)) same = λ i. record { style = roman i; ch = e i }
is_blank s (inl (roman, inl e)) same = absurd (omega (arith, e, eqb-true s.ch 32 same))
is_blank s (inr (more, wide)) same = absurd (omega (arith, more, eqb-true s.ch 32 same))

-- a symbol that is no space and no line feed stands for itself where its character is no mark
pub stands : (plain : Bool) (s : Symbol) → IsSymbol s → (s.ch == 32) ≡ false → (s.ch == 10) ≡ false → is_mark s.ch ≡ false → (here : Place) → step plain (Within s.style) here s.ch ≡ Ok (Within s.style, Some s)
unfolding step marked
stands true s lawful other line plain here = rw (line, no_return s lawful, other, symbol_true s lawful) refl
stands false s lawful other line plain here =
    let n = no_mark s.ch plain in
    rw (line, no_return s lawful, n.0, n.1, n.2, other, symbol_true s lawful) refl

pub line_ends : (plain : Bool) (here : Place) → step plain (Within Roman) here 10 ≡ Ok (Within Roman, Some line_feed)
unfolding step
line_ends plain here = refl

pub feed_read : (plain : Bool) (cs : List ℕ) (copy : List Symbol) → Reads plain Roman cs copy → Reads plain Roman (10 ∷ cs) (line_feed ∷ copy)
feed_read plain cs copy reads = steps_on plain Roman Roman 10 (Some line_feed) cs copy (line_ends plain) reads

-- a mark behind a backslash
pub escaped_read : (style : Style) (c : ℕ) (cs : List ℕ) (copy : List Symbol) → is_mark c ≡ true → Reads false style cs copy → Reads false style (92 ∷ c ∷ cs) (symbol style c ∷ copy)
unfolding step marked
escaped_read style c cs copy m reads here = rw (m, reads (after (after here 92) c)) refl

quoted_read : (s : Symbol) (cs : List ℕ) (copy : List Symbol) → IsSymbol s → (s.ch == 32) ≡ false → Reads false s.style cs copy → Reads false s.style (quoted s.ch ++ cs) (s ∷ copy)
quoted_read s cs copy lawful other reads =
    by_cases (is_mark s.ch) (λ m here. ap (λ xs. read_from false true (Within s.style) here (xs ++ cs)) (quoted_mark s.ch m) ∙ escaped_read s.style s.ch cs copy m reads here)
    (λ m here. ap (λ xs. read_from false true (Within s.style) here (xs ++ cs)) (quoted_plain s.ch m) ∙ itself m here)
  where
    quoted_mark : (c : ℕ) → is_mark c ≡ true → quoted c ≡ 92 ∷ c ∷ []
    quoted_mark c m = rw m refl

    quoted_plain : (c : ℕ) → is_mark c ≡ false → quoted c ≡ c ∷ []
    quoted_plain c m = rw m refl

    itself : is_mark s.ch ≡ false → Reads false s.style (s.ch ∷ cs) (s ∷ copy)
    itself m =
        by_cases (s.ch == 10)
        (λ e. subst (λ (f : Symbol). Reads false f.style (f.ch ∷ cs) (f ∷ copy)) (sym (is_feed s lawful e)) (feed_read false cs copy (subst (λ (f : Symbol). Reads false f.style cs copy) (is_feed s lawful e) reads)))
        (λ e. steps_on false s.style s.style s.ch (Some s) cs copy (stands false s lawful other e m) reads)

pub nothing_left : Reads false Roman [] []
nothing_left here = refl

-- ---- the whole text

text_again : (copy : List Symbol) (run : Style) (count : ℕ) → AreLawful copy → Reads false run (text_from run count copy) (replicate count space ++ copy)
text_again [] run count lawful = λ here. ap (read_from false true (Within run) here) (sym (append-nil (turn run count Roman))) ∙ turns run count Roman [] [] nothing_left here
text_again (s ∷ copy) run count (first, lawful) =
    by_cases (s.ch == 32)
    (λ e here. ap (read_from false true (Within run) here) (kept e) ∙ text_again copy run (count + 1) lawful here ∙ ap Ok (sym (one_more e)))
    (λ e here. ap (read_from false true (Within run) here) (written e) ∙ turns run count s.style (quoted s.ch ++ text_from s.style 0 copy) (s ∷ copy) (quoted_read s (text_from s.style 0 copy) copy first e (text_again copy s.style 0 lawful)) here)
  where
    kept : (s.ch == 32) ≡ true → text_from run count (s ∷ copy) ≡ text_from run (count + 1) copy
    kept e = rw e refl

    one_more : (s.ch == 32) ≡ true → replicate count space ++ (s ∷ copy) ≡ replicate (count + 1) space ++ copy
    one_more e =
        ap (λ x. replicate count space ++ (x ∷ copy)) (is_blank s first e) ∙ sym (append_assoc (replicate count space) (space ∷ []) copy) ∙ ap (λ xs. xs ++ copy) (replicate_more count space)

    written : (s.ch == 32) ≡ false → text_from run count (s ∷ copy) ≡ turn run count s.style ++ (quoted s.ch ++ text_from s.style 0 copy)
    written e = rw e (append_assoc (turn run count s.style) (quoted s.ch) (text_from s.style 0 copy))

-- ---- its bytes

scalars_both : (xs ys : List ℕ) → scalars xs ≡ true → scalars ys ≡ true → scalars (xs ++ ys) ≡ true
scalars_both [] ys p q = q
scalars_both (x ∷ xs) ys p q = at (scalar x) (scalars xs) (scalars (xs ++ ys)) p (λ more. scalars_both xs ys more q)
  where
    at : (a b c : Bool) → (a && b) ≡ true → (b ≡ true → c ≡ true) → (a && c) ≡ true
    at true b c p f = f p
    at false b c p f = p

scalars_spaces : (count : ℕ) → scalars (spaces count) ≡ true
scalars_spaces zero = refl
scalars_spaces (suc n) = scalars_spaces n

scalars_mark : (style : Style) → scalars (mark style) ≡ true
scalars_mark Roman = refl
scalars_mark Italic = refl
scalars_mark SmallCap = refl

scalars_turned : (run : Style) (count : ℕ) (style : Style) → scalars (mark run ++ (spaces count ++ mark style)) ≡ true
scalars_turned run count style = scalars_both (mark run) (spaces count ++ mark style) (scalars_mark run) (scalars_both (spaces count) (mark style) (scalars_spaces count) (scalars_mark style))

scalars_turn : (run : Style) (count : ℕ) (style : Style) → scalars (turn run count style) ≡ true
scalars_turn Roman count Roman = scalars_spaces count
scalars_turn Italic count Italic = scalars_spaces count
scalars_turn SmallCap count SmallCap = scalars_spaces count
scalars_turn Roman count Italic = scalars_turned Roman count Italic
scalars_turn Roman count SmallCap = scalars_turned Roman count SmallCap
scalars_turn Italic count Roman = scalars_turned Italic count Roman
scalars_turn Italic count SmallCap = scalars_turned Italic count SmallCap
scalars_turn SmallCap count Roman = scalars_turned SmallCap count Roman
scalars_turn SmallCap count Italic = scalars_turned SmallCap count Italic

scalars_quoted : (c : ℕ) → IsScalar c → scalars (quoted c) ≡ true
scalars_quoted c s = by_cases (is_mark c) (λ m. rw (m, s) refl) (λ m. rw (m, s) refl)

scalars_text : (copy : List Symbol) (run : Style) (count : ℕ) → AreCharacters copy → scalars (text_from run count copy) ≡ true
scalars_text [] run count all = scalars_turn run count Roman
scalars_text (s ∷ copy) run count (first, all) =
    by_cases (s.ch == 32) (λ e. rw e (scalars_text copy run (count + 1) all))
    (λ e. rw e (scalars_both (turn run count s.style ++ quoted s.ch) (text_from s.style 0 copy) (scalars_both (turn run count s.style) (quoted s.ch) (scalars_turn run count s.style) (scalars_quoted s.ch first)) (scalars_text copy s.style 0 all)))

-- characters in bytes
pub bytes_read : (plain : Bool) (cs : List ℕ) (copy : List Symbol) → scalars cs ≡ true → Reads plain Roman cs copy → reading plain (encode_utf8_all cs) ≡ Ok copy
bytes_read plain cs copy all reads =
    sym (whole_read plain (encode_utf8_all cs) (cs, (all, refl))) ∙ ap (read_from plain true (Within Roman) start) (chars-encodes cs all) ∙ reads start

pub read_again : (copy : List Symbol) → AreLawful copy → AreCharacters copy → reading false (text_bytes copy) ≡ Ok copy
read_again copy lawful all = bytes_read false (text_of copy) copy (scalars_text copy Roman 0 all) (text_again copy Roman 0 lawful)

-- ---- plain text

stands_plain : (s : Symbol) → IsSymbol s → (s.ch == 32) ≡ false → (s.ch == 10) ≡ false → (here : Place) → step true (Within s.style) here s.ch ≡ Ok (Within s.style, Some s)
unfolding step
stands_plain s lawful other line here = rw (line, no_return s lawful, other, symbol_true s lawful) refl

space_plain : (here : Place) → step true (Within Roman) here 32 ≡ Ok (Within Roman, Some space)
unfolding step
space_plain here = refl

plain_symbol : (s : Symbol) (cs : List ℕ) (copy : List Symbol) → IsSymbol s → s.style ≡ Roman → Reads true Roman cs copy → Reads true Roman (s.ch ∷ cs) (s ∷ copy)
plain_symbol s cs copy lawful roman reads =
    by_cases (s.ch == 32)
    (λ e. subst (λ (f : Symbol). Reads true Roman (f.ch ∷ cs) (f ∷ copy)) (sym (is_blank s lawful e)) (steps_on true Roman Roman 32 (Some space) cs copy space_plain reads))
    (λ e. by_cases (s.ch == 10) (λ f. subst (λ (f : Symbol). Reads true Roman (f.ch ∷ cs) (f ∷ copy)) (sym (is_feed s lawful f)) (feed_read true cs copy reads))
    (λ f. subst (λ style. Reads true style (s.ch ∷ cs) (s ∷ copy)) roman (steps_on true s.style s.style s.ch (Some s) cs copy (stands_plain s lawful e f) (subst (λ style. Reads true style cs copy) (sym roman) reads))))

characters : List Symbol → List ℕ
characters copy = map (λ (s : Symbol). s.ch) copy

plain_again : (copy : List Symbol) → AreLawful copy → AreRoman copy → Reads true Roman (characters copy) copy
unfolding characters
plain_again [] lawful roman = λ here. refl
plain_again (s ∷ copy) (first, lawful) (style, roman) = plain_symbol s (characters copy) copy first style (plain_again copy lawful roman)

scalars_plain : (copy : List Symbol) → AreCharacters copy → scalars (characters copy) ≡ true
unfolding characters
scalars_plain [] all = refl
scalars_plain (s ∷ copy) (first, all) = rw (first, scalars_plain copy all) refl

pub plain_read_again : (copy : List Symbol) → AreLawful copy → AreCharacters copy → AreRoman copy → reading true (encode_utf8_all (map (λ (s : Symbol). s.ch) copy)) ≡ Ok copy
unfolding characters
plain_read_again copy lawful all roman = bytes_read true (characters copy) copy (scalars_plain copy all) (plain_again copy lawful roman)
