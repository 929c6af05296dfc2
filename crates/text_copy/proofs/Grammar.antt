-- What is read is what the cases allow.
use Rattle.std.proofs.Common.{◌≡◌, ℕ, ◌<◌, ◌==◌, true, false, List, [], ◌∷◌, ◌++◌, Option, Some, Result, Ok, Err, refl, sym, ap, subst, ◌∙◌, inl, inr, arith}
use Rattle.std.specs.Prelude.{◌↔◌, option_to_list}
use Rattle.std.proofs.lemmas.Bool.Decides.{nat_tests}
use Rattle.desk_ops.specs.declared.op.Style.{Style}
use Rattle.desk_ops.specs.declared.op.Style.TheVariants.{Roman, Italic, SmallCap}
use Rattle.desk_ops.specs.declared.op.Symbol.{Symbol}
use Rattle.desk_ops.specs.Op.{IsSymbol, is_symbol, line_feed}
use Rattle.desk_ops.proofs.Lawful.{symbol_from}
use Rattle.desk_ops.proofs.Stamps.{by_cases}
use Rattle.text_copy.specs.declared.fault.Place.{Place}
use Rattle.text_copy.specs.declared.fault.TextFault.{TextFault}
use Rattle.text_copy.specs.declared.reader.State.{State}
use Rattle.text_copy.specs.declared.reader.State.TheVariants.{Within, Escape, Return}
use Rattle.text_copy.specs.Marks.{mark, is_mark}
use Rattle.text_copy.specs.Reading.{◌>>=◌, Step, line_end, taken, turned, marked, step, after, ends, start, read_from, reading}
use Rattle.text_copy.specs.Grammar.{symbol, IsText, Nothing, Line, ReturnedLine, Space, Itself, Escaped, Opens, Closes}
use Rattle.std.specs.Str.{IsUtf8, chars}
use Rattle.std.proofs.lemmas.Bool.{eqb-true, ne_eqb}
use Rattle.text_copy.proofs.Loops.{whole_read}
use Rattle.text_copy.proofs.Again.{Reads, opens, closes, steps_on, feed_read, nothing_left, one_space, escaped_read, stands}

-- ---- what the cases allow is read

opened : (style : Style) (m : ℕ) (cs : List ℕ) (copy : List Symbol) → mark style ≡ m ∷ [] → Reads false style cs copy → Reads false Roman (m ∷ cs) copy
opened style m cs copy is reads here = ap (λ xs. read_from false true (Within Roman) here (xs ++ cs)) (sym is) ∙ opens style cs copy reads here

closed : (style : Style) (m : ℕ) (cs : List ℕ) (copy : List Symbol) → mark style ≡ m ∷ [] → Reads false Roman cs copy → Reads false style (m ∷ cs) copy
closed style m cs copy is reads here = ap (λ xs. read_from false true (Within style) here (xs ++ cs)) (sym is) ∙ closes style cs copy reads here

returned : (cs : List ℕ) (copy : List Symbol) → Reads false Roman cs copy → Reads false Roman (13 ∷ 10 ∷ cs) (line_feed ∷ copy)
unfolding step
returned cs copy reads here = rw (reads (after (after here 13) 10)) refl

itself : (style : Style) (c : ℕ) (cs : List ℕ) (copy : List Symbol) → 32 < c → is_mark c ≡ false → IsSymbol (symbol style c) → Reads false style cs copy → Reads false style (c ∷ cs) (symbol style c ∷ copy)
itself style c cs copy more m lawful reads =
    steps_on false style style c (Some (symbol style c)) cs copy (stands false (symbol style c) lawful (ne_eqb c 32 (λ e. omega (arith, e, more))) (ne_eqb c 10 (λ e. omega (arith, e, more))) m) reads

pub text_read : (style : Style) (cs : List ℕ) (copy : List Symbol) → IsText style cs copy → Reads false style cs copy
text_read _ _ _ Nothing = nothing_left
text_read _ _ _ (Line {cs} {copy} rest) = feed_read false cs copy (text_read Roman cs copy rest)
text_read _ _ _ (ReturnedLine {cs} {copy} rest) = returned cs copy (text_read Roman cs copy rest)
text_read _ _ _ (Space {style} {cs} {copy} rest) = one_space style cs copy (text_read style cs copy rest)
text_read _ _ _ (Itself {style} {c} {cs} {copy} more m lawful rest) = itself style c cs copy more m lawful (text_read style cs copy rest)
text_read _ _ _ (Escaped {style} {c} {cs} {copy} m rest) = escaped_read style c cs copy m (text_read style cs copy rest)
text_read _ _ _ (Opens {style} {m} {cs} {copy} is rest) = opened style m cs copy is (text_read style cs copy rest)
text_read _ _ _ (Closes {style} {m} {cs} {copy} is rest) = closed style m cs copy is (text_read Roman cs copy rest)

-- ---- what is read is allowed

-- what was read so far of a character that is not ended
abbrev pub TextAt : State → List ℕ → List Symbol → Type 0
TextAt (Within style) cs copy = IsText style cs copy
TextAt (Escape style back) cs copy = IsText style (92 ∷ cs) copy
TextAt (Return style back) cs copy = IsText style (13 ∷ cs) copy

-- what a step allows, whatever is read behind it
abbrev Allowed : State → ℕ → Step → Type 0
Allowed state c (Ok next) = (cs : List ℕ) (copy : List Symbol) → TextAt next.0 cs copy → TextAt state (c ∷ cs) (option_to_list next.1 ++ copy)
Allowed state c (Err e) = Unit {0}

line_allowed : (style : Style) (here : Place) → Allowed (Within style) 10 (line_end style here)
line_allowed Roman here = λ cs copy rest. Line rest
line_allowed Italic here = tt
line_allowed SmallCap here = tt

return_allowed : (style : Style) (back : Place) → Allowed (Return style back) 10 (line_end style back)
return_allowed Roman back = λ cs copy rest. ReturnedLine rest
return_allowed Italic back = tt
return_allowed SmallCap back = tt

turn_allowed : (which style : Style) (m : ℕ) (here : Place) → mark which ≡ m ∷ [] → Allowed (Within style) m (turned which style here)
turn_allowed Italic Roman m here is = λ cs copy rest. Opens is rest
turn_allowed Italic Italic m here is = λ cs copy rest. Closes is rest
turn_allowed Italic SmallCap m here is = tt
turn_allowed SmallCap Roman m here is = λ cs copy rest. Opens is rest
turn_allowed SmallCap Italic m here is = tt
turn_allowed SmallCap SmallCap m here is = λ cs copy rest. Closes is rest
turn_allowed Roman Roman m here is = absurd (let f : [] ≡ m ∷ [] = is in cc)
turn_allowed Roman Italic m here is = absurd (let f : [] ≡ m ∷ [] = is in cc)
turn_allowed Roman SmallCap m here is = absurd (let f : [] ≡ m ∷ [] = is in cc)

wide : (style : Style) (c : ℕ) → IsSymbol (symbol style c) → (c == 10) ≡ false → (c == 32) ≡ false → 32 < c
wide style c (inl (roman, inl e)) p q = absurd (let f : true ≡ false = sym (same_numbers c 10 e) ∙ p in cc)
  where
    same_numbers : (a b : ℕ) → a ≡ b → (a == b) ≡ true
    same_numbers a b e = grind (arith, nat_tests)
wide style c (inl (roman, inr e)) p q = absurd (let f : true ≡ false = sym (same_numbers c 32 e) ∙ q in cc)
  where
    same_numbers : (a b : ℕ) → a ≡ b → (a == b) ≡ true
    same_numbers a b e = grind (arith, nat_tests)
wide style c (inr (more, other)) p q = more

no_mark : (c : ℕ) → (c == 92) ≡ false → (c == 95) ≡ false → (c == 94) ≡ false → is_mark c ≡ false
no_mark c p q r = rw (p, q, r) refl

taken_allowed : (style : Style) (here : Place) (c : ℕ) → (c == 10) ≡ false → is_mark c ≡ false → Allowed (Within style) c (taken style here c)
taken_allowed style here c p m =
    by_cases (c == 32) (λ e. subst (λ n. Allowed (Within style) n (taken style here n)) (sym (eqb-true c 32 e)) (λ cs copy rest. Space rest))
    (λ q. by_cases (is_symbol (symbol style c)) (λ e. rw (q, e) (λ cs copy rest. Itself (wide style c (symbol_from (symbol style c) e) p q) m (symbol_from (symbol style c) e) rest)) (λ e. rw (q, e) tt))

marked_allowed : (style : Style) (here : Place) (c : ℕ) → (c == 10) ≡ false → Allowed (Within style) c (marked style here c)
unfolding marked
marked_allowed style here c p =
    by_cases (c == 92) (λ q. subst (λ n. Allowed (Within style) n (marked style here n)) (sym (eqb-true c 92 q)) (λ cs copy rest. rest))
    (λ q. by_cases (c == 95) (λ r. rw (q, r) (turn_allowed Italic style c here (ap (λ n. n ∷ []) (sym (eqb-true c 95 r)))))
    (λ r. by_cases (c == 94) (λ s. rw (q, r, s) (turn_allowed SmallCap style c here (ap (λ n. n ∷ []) (sym (eqb-true c 94 s))))) (λ s. rw (q, r, s) (taken_allowed style here c p (no_mark c q r s)))))

step_allowed : (state : State) (here : Place) (c : ℕ) → Allowed state c (step false state here c)
unfolding step
step_allowed (Within style) here c =
    by_cases (c == 10) (λ p. rw p (subst (λ n. Allowed (Within style) n (line_end style here)) (sym (eqb-true c 10 p)) (line_allowed style here)))
    (λ p. by_cases (c == 13) (λ q. subst (λ n. Allowed (Within style) n (step false (Within style) here n)) (sym (eqb-true c 13 q)) (λ cs copy rest. rest)) (λ q. rw (p, q) (marked_allowed style here c p)))
step_allowed (Escape style back) here c = by_cases (is_mark c) (λ m. rw m (λ cs copy rest. Escaped m rest)) (λ m. rw m tt)
step_allowed (Return style back) here c =
    by_cases (c == 10) (λ p. rw p (subst (λ n. Allowed (Return style back) n (line_end style back)) (sym (eqb-true c 10 p)) (return_allowed style back))) (λ p. rw p tt)

at_end : (state : State) (here : Place) (copy : List Symbol) → (ends true state here >>= λ end. Ok []) ≡ Ok copy → TextAt state [] copy
at_end (Within Roman) here copy h =
    let f : Ok [] ≡ Ok copy = h in
    let same : [] ≡ copy = cc in
    subst (λ ys. IsText Roman [] ys) same Nothing
at_end (Within Italic) here copy h = absurd (let f : Err _ ≡ Ok copy = h in cc)
at_end (Within SmallCap) here copy h = absurd (let f : Err _ ≡ Ok copy = h in cc)
at_end (Escape style back) here copy h = absurd (let f : Err _ ≡ Ok copy = h in cc)
at_end (Return style back) here copy h = absurd (let f : Err _ ≡ Ok copy = h in cc)

pub read_text : (state : State) (here : Place) (cs : List ℕ) (copy : List Symbol) → read_from false true state here cs ≡ Ok copy → TextAt state cs copy
read_text state here [] copy h = at_end state here copy h
read_text state here (c ∷ cs) copy h = at (step false state here c) (step_allowed state here c) h (λ to. read_text to (after here c) cs)
  where
    more_read : (next : State × Option Symbol) (r : Result (List Symbol) TextFault) → Allowed state c (Ok next) → ((more : List Symbol) → r ≡ Ok more → TextAt next.0 cs more)
        → (r >>= λ more. Ok (option_to_list next.1 ++ more)) ≡ Ok copy → TextAt state (c ∷ cs) copy
    more_read next (Ok more) allowed rest h =
        let f : Ok (option_to_list next.1 ++ more) ≡ Ok copy = h in
        let same : option_to_list next.1 ++ more ≡ copy = cc in
        subst (λ ys. TextAt state (c ∷ cs) ys) same (allowed cs more (rest more refl))
    more_read next (Err e) allowed rest h = absurd (let f : Err e ≡ Ok copy = h in cc)

    at : (stepped : Step) → Allowed state c stepped → (stepped >>= λ next. read_from false true next.0 (after here c) cs >>= λ more. Ok (option_to_list next.1 ++ more)) ≡ Ok copy
        → ((to : State) (more : List Symbol) → read_from false true to (after here c) cs ≡ Ok more → TextAt to cs more) → TextAt state (c ∷ cs) copy
    at (Ok next) allowed h rest = more_read next (read_from false true next.0 (after here c) cs) allowed (rest next.0) h
    at (Err e) allowed h rest = absurd (let f : Err e ≡ Ok copy = h in cc)

pub text_is_grammar : (bytes : List ℕ) (copy : List Symbol) → IsUtf8 bytes → (reading false bytes ≡ Ok copy) ↔ IsText Roman (chars bytes) copy
text_is_grammar bytes copy text = (λ h. read_text (Within Roman) start (chars bytes) copy (whole_read false bytes text ∙ h), λ h. sym (whole_read false bytes text) ∙ text_read Roman (chars bytes) copy h start)
