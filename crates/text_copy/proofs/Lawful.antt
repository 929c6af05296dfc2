-- What is read is lawful.
use Rattle.std.proofs.Common.{◌≡◌, ℕ, ◌==◌, Bool, true, List, [], ◌∷◌, ◌++◌, Option, Some, None, Result, Ok, Err, refl, subst, inl, inr, length, take, arith}
use Rattle.std.specs.Prelude.{IfOk, option_to_list}
use Rattle.std.specs.Str.{chars}
use Rattle.std.specs.Str.Lossy.{utf8_valid_len}
use Rattle.std.proofs.lemmas.Bool.Decides.{nat_tests}
use Rattle.desk_ops.specs.declared.op.Style.{Style}
use Rattle.desk_ops.specs.declared.op.Style.TheVariants.{Roman, Italic, SmallCap}
use Rattle.desk_ops.specs.declared.op.Symbol.{Symbol}
use Rattle.desk_ops.specs.Op.{IsSymbol, is_symbol, same_style}
use Rattle.desk_ops.proofs.Lawful.{symbol_from}
use Rattle.desk_ops.proofs.Stamps.{by_cases}
use Rattle.text_copy.specs.declared.fault.Place.{Place}
use Rattle.text_copy.specs.declared.fault.TextFault.{TextFault}
use Rattle.text_copy.specs.declared.reader.State.{State}
use Rattle.text_copy.specs.declared.reader.State.TheVariants.{Within, Escape, Return}
use Rattle.text_copy.specs.Marks.{is_mark}
use Rattle.text_copy.specs.Reading.{◌>>=◌, Gives, Step, symbol_of, line_end, taken, turned, marked, step, after, ends, start, read_from, reading}
use Rattle.text_copy.specs.Laws.{AreLawful}

abbrev OneLawful : Option Symbol → Type 0
OneLawful None = Unit {0}
OneLawful (Some s) = IsSymbol s

abbrev StepLawful : Step → Type 0
StepLawful (Ok next) = OneLawful next.1
StepLawful (Err e) = Unit {0}

line_end_lawful : (style : Style) (here : Place) → StepLawful (line_end style here)
line_end_lawful Roman here = inl (refl, inl refl)
line_end_lawful Italic here = tt
line_end_lawful SmallCap here = tt

taken_lawful : (style : Style) (here : Place) (c : ℕ) → StepLawful (taken style here c)
taken_lawful style here c = by_cases (is_symbol (symbol_of style c)) (λ e. rw e (symbol_from (symbol_of style c) e)) (λ e. rw e tt)

turned_lawful : (mark style : Style) (here : Place) → StepLawful (turned mark style here)
turned_lawful mark style here = by_cases (same_style style mark) (λ e. rw e tt) (λ e. by_cases (same_style style Roman) (λ f. rw (e, f) tt) (λ f. rw (e, f) tt))

marked_lawful : (style : Style) (here : Place) (c : ℕ) → StepLawful (marked style here c)
unfolding marked
marked_lawful style here c =
    by_cases (c == 92) (λ p. rw p tt)
    (λ p. by_cases (c == 95) (λ q. rw (p, q) (turned_lawful Italic style here))
    (λ q. by_cases (c == 94) (λ r. rw (p, q, r) (turned_lawful SmallCap style here)) (λ r. rw (p, q, r) (taken_lawful style here c))))

mark_lawful : (style : Style) (c : ℕ) → is_mark c ≡ true → IsSymbol (record { style = style; ch = c })
mark_lawful style c m = inr (grind (arith, nat_tests), inl (grind (arith, nat_tests)))

step_lawful : (plain : Bool) (state : State) (here : Place) (c : ℕ) → StepLawful (step plain state here c)
unfolding step
step_lawful plain (Within style) here c =
    by_cases (c == 10) (λ p. rw p (line_end_lawful style here))
    (λ p. by_cases (c == 13) (λ q. rw (p, q) tt)
    (λ q. by_cases plain (λ r. rw (p, q, r) (taken_lawful style here c)) (λ r. rw (p, q, r) (marked_lawful style here c))))
step_lawful plain (Escape style back) here c = by_cases (is_mark c) (λ m. rw m (mark_lawful style c m)) (λ m. rw m tt)
step_lawful plain (Return style back) here c = by_cases (c == 10) (λ p. rw p (line_end_lawful style back)) (λ p. rw p tt)

joined : (o : Option Symbol) (copy : List Symbol) → OneLawful o → AreLawful copy → AreLawful (option_to_list o ++ copy)
joined None copy one lawful = lawful
joined (Some s) copy one lawful = (one, lawful)

ended : (r : Result (Unit {0}) TextFault) (copy : List Symbol) → (r >>= λ end. Ok []) ≡ Ok copy → AreLawful copy
ended (Ok end) copy h =
    let f : Ok [] ≡ Ok copy = h in
    let same : [] ≡ copy = cc in
    subst AreLawful same tt
ended (Err e) copy h = absurd (let f : Err e ≡ Ok copy = h in cc)

went_on : (o : Option Symbol) (r : Result (List Symbol) TextFault) (copy : List Symbol) → OneLawful o → ((more : List Symbol) → r ≡ Ok more → AreLawful more)
    → (r >>= λ more. Ok (option_to_list o ++ more)) ≡ Ok copy → AreLawful copy
went_on o (Ok more) copy one rest h =
    let f : Ok (option_to_list o ++ more) ≡ Ok copy = h in
    let same : option_to_list o ++ more ≡ copy = cc in
    subst AreLawful same (joined o more one (rest more refl))
went_on o (Err e) copy one rest h = absurd (let f : Err e ≡ Ok copy = h in cc)

read_lawful : (plain whole : Bool) (state : State) (here : Place) (cs : List ℕ) (copy : List Symbol) → read_from plain whole state here cs ≡ Ok copy → AreLawful copy
read_lawful plain whole state here [] copy h = ended (ends whole state here) copy h
read_lawful plain whole state here (c ∷ cs) copy h = at (step plain state here c) (step_lawful plain state here c) h (λ to. read_lawful plain whole to (after here c) cs)
  where
    at : (stepped : Step) → StepLawful stepped → (stepped >>= λ next. read_from plain whole next.0 (after here c) cs >>= λ more. Ok (option_to_list next.1 ++ more)) ≡ Ok copy
        → ((to : State) (more : List Symbol) → read_from plain whole to (after here c) cs ≡ Ok more → AreLawful more) → AreLawful copy
    at (Ok next) one h rest = went_on next.1 (read_from plain whole next.0 (after here c) cs) copy one (rest next.0) h
    at (Err e) one h rest = absurd (let f : Err e ≡ Ok copy = h in cc)

pub text_lawful : (plain : Bool) (bytes : List ℕ) (copy : List Symbol) → reading plain bytes ≡ Ok copy → AreLawful copy
text_lawful plain bytes copy h = read_lawful plain (utf8_valid_len bytes == length bytes) (Within Roman) start (chars (take (utf8_valid_len bytes) bytes)) copy h

-- what a function returned is lawful where it is what reading gives
pub given_lawful : {X : Type 0} (view : X → List Symbol) (result : Result X TextFault) (read : Result (List Symbol) TextFault) → Gives view result read
    → ((copy : List Symbol) → read ≡ Ok copy → AreLawful copy) → IfOk result (λ x. AreLawful (view x))
given_lawful view (Ok x) read given lawful = lawful (view x) given
given_lawful view (Err e) read given lawful = tt
