-- A place for each symbol that is read.
use Rattle.std.proofs.Common.{◌≡◌, ℕ, ◌+◌, ◌==◌, ◌<◌, ◌≤◌, append-nil, append_assoc, drop, get_or, Bool, true, false, List, [], ◌∷◌, ◌++◌, Option, Some, None, Result, Ok, Err, refl, sym, ap, ◌∙◌, subst, length, take, arith}
use Rattle.std.specs.Prelude.{is_some, not, option_to_list, if◌then◌else◌}
use Rattle.std.specs.Str.{chars}
use Rattle.std.specs.Str.Lossy.{utf8_valid_len}
use Rattle.std.proofs.lemmas.Bool.{eqb-true}
use Rattle.std.proofs.lemmas.List.{at_drop_all}
use Rattle.desk_ops.proofs.Lists.{drop-at}
use Rattle.desk_ops.specs.declared.op.Style.{Style}
use Rattle.desk_ops.specs.declared.op.Style.TheVariants.{Roman, Italic, SmallCap}
use Rattle.desk_ops.specs.declared.op.Symbol.{Symbol}
use Rattle.desk_ops.specs.Op.{is_symbol, same_style}
use Rattle.desk_ops.proofs.Stamps.{by_cases}
use Rattle.text_copy.specs.declared.fault.Place.{Place}
use Rattle.text_copy.specs.declared.fault.TextFault.{TextFault}
use Rattle.text_copy.specs.declared.reader.State.{State}
use Rattle.text_copy.specs.declared.reader.State.TheVariants.{Within, Escape, Return}
use Rattle.text_copy.specs.Marks.{is_mark}
use Rattle.text_copy.specs.Reading.{◌>>=◌, Step, symbol_of, line_end, taken, turned, marked, step, after, ends, start, read_from}
use Rattle.view_preview.specs.Places.{EachHasPlace, behind, ends_symbol, escapes, places_from}

abbrev is_escaped : State → Bool
is_escaped (Within style) = false
is_escaped (Escape style back) = true
is_escaped (Return style back) = false

-- a step ends a symbol where the character does, and is behind a backslash where that escapes
abbrev Agrees : (ended escaping : Bool) → Step → Type 0
Agrees ended escaping (Ok next) = (is_some next.1 ≡ ended) × (is_escaped next.0 ≡ escaping)
Agrees ended escaping (Err e) = Unit {0}

line_agrees : (style : Style) (here : Place) → Agrees true false (line_end style here)
line_agrees Roman here = (refl, refl)
line_agrees Italic here = tt
line_agrees SmallCap here = tt

taken_agrees : (style : Style) (here : Place) (c : ℕ) → Agrees true false (taken style here c)
taken_agrees style here c = by_cases (is_symbol (symbol_of style c)) (λ e. rw e (refl, refl)) (λ e. rw e tt)

turned_agrees : (mark style : Style) (here : Place) → Agrees false false (turned mark style here)
turned_agrees mark style here =
    by_cases (same_style style mark) (λ e. rw e (refl, refl)) (λ e. by_cases (same_style style Roman) (λ f. rw (e, f) (refl, refl)) (λ f. rw (e, f) tt))

marked_agrees : (style : Style) (here : Place) (c : ℕ) → Agrees (not (is_mark c)) (c == 92) (marked style here c)
unfolding marked
marked_agrees style here c =
    by_cases (c == 92) (λ p. rw (eqb-true c 92 p) (refl, refl))
    (λ p. by_cases (c == 95) (λ q. rw (eqb-true c 95 q) (turned_agrees Italic style here))
    (λ q. by_cases (c == 94) (λ r. rw (eqb-true c 94 r) (turned_agrees SmallCap style here)) (λ r. rw (p, q, r) (taken_agrees style here c))))

step_agrees : (plain : Bool) (state : State) (here : Place) (c : ℕ) → Agrees (ends_symbol plain (is_escaped state) c) (escapes plain (is_escaped state) c) (step plain state here c)
unfolding step
step_agrees true (Within style) here c =
    by_cases (c == 10) (λ p. rw (eqb-true c 10 p) (line_agrees style here))
    (λ p. by_cases (c == 13) (λ q. rw (eqb-true c 13 q) (refl, refl)) (λ q. rw (p, q) (taken_agrees style here c)))
step_agrees false (Within style) here c =
    by_cases (c == 10) (λ p. rw (eqb-true c 10 p) (line_agrees style here))
    (λ p. by_cases (c == 13) (λ q. rw (eqb-true c 13 q) (refl, refl)) (λ q. rw (p, q) (marked_agrees style here c)))
step_agrees true (Escape style back) here c = by_cases (is_mark c) (λ m. rw m (refl, refl)) (λ m. rw m tt)
step_agrees false (Escape style back) here c = by_cases (is_mark c) (λ m. rw m (refl, refl)) (λ m. rw m tt)
step_agrees true (Return style back) here c = by_cases (c == 10) (λ p. rw (eqb-true c 10 p) (line_agrees style back)) (λ p. rw p tt)
step_agrees false (Return style back) here c = by_cases (c == 10) (λ p. rw (eqb-true c 10 p) (line_agrees style back)) (λ p. rw p tt)

-- the places of symbols that were read
counted : (plain whole : Bool) (state : State) (here there : Place) (cs : List ℕ) (copy : List Symbol) → read_from plain whole state here cs ≡ Ok copy
    → length (places_from plain (is_escaped state) there cs) ≡ length copy
counted plain whole state here there [] copy h = ended (ends whole state here) h
  where
    ended : (r : Result (Unit {0}) TextFault) → (r >>= λ end. Ok []) ≡ Ok copy → 0 ≡ length copy
    ended (Ok end) h =
        let f : Ok [] ≡ Ok copy = h in
        let same : [] ≡ copy = cc in
        subst (λ (xs : List Symbol). 0 ≡ length xs) same refl
    ended (Err e) h = absurd (let f : Err e ≡ Ok copy = h in cc)
counted plain whole state here there (c ∷ cs) copy h =
    at (step plain state here c) (ends_symbol plain (is_escaped state) c) (escapes plain (is_escaped state) c) (step_agrees plain state here c) h (λ to. counted plain whole to (after here c) (after there c) cs)
  where
    add : (o : Option Symbol) (more : List Symbol) (places : List Place) → length places ≡ length more
        → length ((if is_some o then there ∷ [] else []) ++ places) ≡ length (option_to_list o ++ more)
    add None more places is = is
    add (Some s) more places is = omega (arith, is)

    went_on : (o : Option Symbol) (r : Result (List Symbol) TextFault) (places : List Place) → ((more : List Symbol) → r ≡ Ok more → length places ≡ length more)
        → (r >>= λ more. Ok (option_to_list o ++ more)) ≡ Ok copy → length ((if is_some o then there ∷ [] else []) ++ places) ≡ length copy
    went_on o (Ok more) places rest h =
        let f : Ok (option_to_list o ++ more) ≡ Ok copy = h in
        let same : option_to_list o ++ more ≡ copy = cc in
        subst (λ (xs : List Symbol). length ((if is_some o then there ∷ [] else []) ++ places) ≡ length xs) same (add o more places (rest more refl))
    went_on o (Err e) places rest h = absurd (let f : Err e ≡ Ok copy = h in cc)

    at : (stepped : Step) (ended escaping : Bool) → Agrees ended escaping stepped
        → (stepped >>= λ next. read_from plain whole next.0 (after here c) cs >>= λ more. Ok (option_to_list next.1 ++ more)) ≡ Ok copy
        → ((to : State) (more : List Symbol) → read_from plain whole to (after here c) cs ≡ Ok more → length (places_from plain (is_escaped to) (after there c) cs) ≡ length more)
        → length ((if ended then there ∷ [] else []) ++ places_from plain escaping (after there c) cs) ≡ length copy
    at (Ok next) ended escaping agrees h rest =
        rw (sym agrees.0, sym agrees.1) (went_on next.1 (read_from plain whole next.0 (after here c) cs) (places_from plain (is_escaped next.0) (after there c) cs) (rest next.0) h)
    at (Err e) ended escaping agrees h rest = absurd (let f : Err e ≡ Ok copy = h in cc)

pub each_has_place : EachHasPlace
each_has_place plain bytes copy h = counted plain (utf8_valid_len bytes == length bytes) (Within Roman) start start (chars (take (utf8_valid_len bytes) bytes)) copy h

-- ---- in a loop

-- a character further
pub placed_on : (plain escaped next : Bool) (here there : Place) (cs : List ℕ) (n m c : ℕ) (before more all : List Place)
    → (n < length cs) × (c ≡ get_or cs n c) → m ≡ n + 1 → more ≡ before ++ (if ends_symbol plain escaped c then here ∷ [] else []) → next ≡ escapes plain escaped c → there ≡ after here c
    → before ++ places_from plain escaped here (drop n cs) ≡ all → more ++ places_from plain next there (drop m cs) ≡ all
placed_on plain escaped next here there cs n m c before more all at moved pushed turned gone so_far =
    let one = if ends_symbol plain escaped c then here ∷ [] else [] in
    let rest = places_from plain (escapes plain escaped c) (after here c) (drop (n + 1) cs) in
    let ahead : more ++ places_from plain next there (drop m cs) ≡ (before ++ one) ++ rest = rw (pushed, moved, turned, gone) refl in
    ahead ∙ append_assoc before one rest ∙ ap (λ xs. before ++ places_from plain escaped here xs) (sym (drop-at cs n c c at.0 at.1)) ∙ so_far

-- at the end
pub placed_end : (plain escaped : Bool) (here : Place) (cs : List ℕ) (n : ℕ) (before all : List Place) → length cs ≤ n
    → before ++ places_from plain escaped here (drop n cs) ≡ all → before ≡ all
placed_end plain escaped here cs n before all past so_far =
    sym (append-nil before) ∙ ap (λ xs. before ++ xs) (sym (at_drop_all (places_from plain escaped here) cs n past)) ∙ so_far

pub behind_on : (here there all : Place) (cs : List ℕ) (n m c : ℕ) → (n < length cs) × (c ≡ get_or cs n c) → m ≡ n + 1 → there ≡ after here c → behind here (drop n cs) ≡ all → behind there (drop m cs) ≡ all
behind_on here there all cs n m c at moved gone so_far =
    let ahead : behind there (drop m cs) ≡ behind (after here c) (drop (n + 1) cs) = rw (moved, gone) refl in
    ahead ∙ ap (behind here) (sym (drop-at cs n c c at.0 at.1)) ∙ so_far

pub behind_end : (here all : Place) (cs : List ℕ) (n : ℕ) → length cs ≤ n → behind here (drop n cs) ≡ all → here ≡ all
behind_end here all cs n past so_far = sym (at_drop_all (behind here) cs n past) ∙ so_far
