-- Signals that stand in a list, and how often.
use Rattle.std.proofs.Common.{◌≡◌, ℕ, suc, ◌<◌, ◌≤◌, Bool, true, false, cond, ◌&&◌, ◌||◌, List, [], ◌∷◌, length, get_or, refl, sym, ap, ap₂, ◌∙◌, subst, arith, eqb-true}
use Rattle.std.specs.List.{filter, list_any, insert}
use Rattle.std.specs.List.Sorted.{IsPermutation}
use Rattle.std.proofs.lemmas.List.Sums.{length-filter}
use Rattle.std.proofs.lemmas.List.Sorted.{sum_by-IsPermutation, IsPermutation-refl, IsPermutation-cons, IsPermutation-trans, IsPermutation-insert}
use Rattle.std.proofs.lemmas.Bool.{or_parts, or_from}
use Rattle.desk_signals.specs.declared.Signal.{Signal}
use Rattle.desk_signals.specs.declared.Signal.TheVariants as signal
use Rattle.desk_signals.specs.Rows.{the_signals, place, same, has, repeats}

at_place : (x : Signal) → get_or the_signals (place x) signal.S ≡ x
at_place signal.A = refl
at_place signal.B = refl
at_place signal.C = refl
at_place signal.D = refl
at_place signal.E = refl
at_place signal.F = refl
at_place signal.G = refl
at_place signal.H = refl
at_place signal.I = refl
at_place signal.J = refl
at_place signal.K = refl
at_place signal.L = refl
at_place signal.M = refl
at_place signal.N = refl
at_place signal.One = refl
at_place signal.Two = refl
at_place signal.Three = refl
at_place signal.Four = refl
at_place signal.Five = refl
at_place signal.Six = refl
at_place signal.Seven = refl
at_place signal.Eight = refl
at_place signal.Nine = refl
at_place signal.Ten = refl
at_place signal.Eleven = refl
at_place signal.Twelve = refl
at_place signal.Thirteen = refl
at_place signal.Fourteen = refl
at_place signal.Fine = refl
at_place signal.Coarse = refl
at_place signal.S = refl

pub same-eq : (x y : Signal) → same x y ≡ true → x ≡ y
same-eq x y e = sym (at_place x) ∙ (ap (λ (n : ℕ). get_or the_signals n signal.S) (eqb-true (place x) (place y) e) ∙ at_place y)

pub same-refl : (x : Signal) → same x x ≡ true
same-refl signal.A = refl
same-refl signal.B = refl
same-refl signal.C = refl
same-refl signal.D = refl
same-refl signal.E = refl
same-refl signal.F = refl
same-refl signal.G = refl
same-refl signal.H = refl
same-refl signal.I = refl
same-refl signal.J = refl
same-refl signal.K = refl
same-refl signal.L = refl
same-refl signal.M = refl
same-refl signal.N = refl
same-refl signal.One = refl
same-refl signal.Two = refl
same-refl signal.Three = refl
same-refl signal.Four = refl
same-refl signal.Five = refl
same-refl signal.Six = refl
same-refl signal.Seven = refl
same-refl signal.Eight = refl
same-refl signal.Nine = refl
same-refl signal.Ten = refl
same-refl signal.Eleven = refl
same-refl signal.Twelve = refl
same-refl signal.Thirteen = refl
same-refl signal.Fourteen = refl
same-refl signal.Fine = refl
same-refl signal.Coarse = refl
same-refl signal.S = refl

-- how often a signal stands in a list
abbrev pub times : List Signal → Signal → ℕ
times xs x = length (filter (same x) xs)

pub filter-permutation : (p : Signal → Bool) (xs ys : List Signal) → IsPermutation xs ys → length (filter p xs) ≡ length (filter p ys)
filter-permutation p xs ys e =
    length-filter p xs ∙ (sym (sum_by-IsPermutation (λ x. cond (p x) 1 0) xs ys e) ∙ sym (length-filter p ys))

none_there_step : (b : Bool) (x : Signal) (rest : List Signal) (any : Bool) → length (cond b (x ∷ rest) rest) ≤ 0 → (length rest ≤ 0 → any ≡ false) → (b || any) ≡ false
none_there_step true x rest any few ih = absurd (omega (arith, few))
none_there_step false x rest any few ih = ih few

none_there : (p : Signal → Bool) (xs : List Signal) → length (filter p xs) ≤ 0 → list_any p xs ≡ false
none_there p [] few = refl
none_there p (x ∷ xs) few = none_there_step (p x) x (filter p xs) (list_any p xs) few (none_there p xs)

lone_step : (x y : Signal) (xs : List Signal) (b : Bool) → same y x ≡ b → has xs x ≡ false → filter (same y) xs ≡ cond (has xs y) (y ∷ []) [] →
    cond b (x ∷ filter (same y) xs) (filter (same y) xs) ≡ cond (b || has xs y) (y ∷ []) []
lone_step x y xs true is none ih =
    let e = same-eq y x is in
    ap₂ (λ (z : Signal) (zs : List Signal). z ∷ zs) (sym e) (ih ∙ ap (λ (b : Bool). cond b (y ∷ []) []) (ap (λ (z : Signal). has xs z) e ∙ none))
lone_step x y xs false is none ih = ih

-- where no signal repeats, each stands once or not at all
pub lone : (xs : List Signal) (y : Signal) → repeats xs ≡ false → filter (same y) xs ≡ cond (has xs y) (y ∷ []) []
lone [] y none = refl
lone (x ∷ xs) y none =
    let (first, rest) = or_parts (has xs x) (repeats xs) none in
    lone_step x y xs (same y x) refl first (lone xs y rest)

tail_less : (p : Signal → Bool) (b : Bool) (x : Signal) (rest : List Signal) (n : ℕ) → length (cond b (x ∷ rest) rest) ≤ n → length rest ≤ n
tail_less p true x rest n few = omega (arith, few)
tail_less p false x rest n few = few

pub no_repeats : (xs : List Signal) → ((y : Signal) → times xs y ≤ 1) → repeats xs ≡ false
no_repeats [] few = refl
no_repeats (x ∷ xs) few =
    or_from (has xs x) (repeats xs)
    (none_there (same x) xs (let f = few x in let g = rw (same-refl x) at f in omega (arith, g)))
    (no_repeats xs (λ y. tail_less (same y) (same y x) x (filter (same y) xs) 1 (few y)))

-- a signal taken out of a list where it stands
pub record Taken (ys : List Signal) (y : Signal) : Type 0 where
  pub rest : List Signal
  pub at : ℕ
  pub is : ys ≡ insert rest at y

take_out_step : (y z : Signal) (ys : List Signal) (b : Bool) → same y z ≡ b → (b || has ys y) ≡ true → (has ys y ≡ true → Taken ys y) → Taken (z ∷ ys) y
take_out_step y z ys true is there rec = record { rest = ys; at = 0; is = ap (λ (x : Signal). x ∷ ys) (sym (same-eq y z is)) }
take_out_step y z ys false is there rec =
    let found = rec there in
    record { rest = z ∷ found.rest; at = suc found.at; is = ap (λ (xs : List Signal). z ∷ xs) found.is }

pub take_out : (ys : List Signal) (y : Signal) → has ys y ≡ true → Taken ys y
take_out [] y there = absurd (cc)
take_out (z ∷ ys) y there = take_out_step y z ys (same y z) refl there (take_out ys y)

some_there_step : (b : Bool) (x : Signal) (rest : List Signal) (any : Bool) → 0 < length (cond b (x ∷ rest) rest) → (0 < length rest → any ≡ true) → (b || any) ≡ true
some_there_step true x rest any some ih = refl
some_there_step false x rest any some ih = ih some

pub some_there : (p : Signal → Bool) (xs : List Signal) → 0 < length (filter p xs) → list_any p xs ≡ true
some_there p [] some = absurd (omega (arith, some))
some_there p (x ∷ xs) some = some_there_step (p x) x (filter p xs) (list_any p xs) some (some_there p xs)

less_one : (b c : Bool) (x : Signal) (xs ys : List Signal) → length (cond b (x ∷ xs) xs) ≡ length (cond b (x ∷ ys) ys) → length xs ≡ length ys
less_one true c x xs ys e = omega (arith, e)
less_one false c x xs ys e = e

-- lists in which each signal stands equally often are each other's orders
pub same_times : (xs ys : List Signal) → ((x : Signal) → times xs x ≡ times ys x) → IsPermutation xs ys
same_times [] [] e = IsPermutation-refl []
same_times [] (y ∷ ys) e = let f = e y in let g = rw (same-refl y) at f in absurd (omega (arith, g))
same_times (x ∷ xs) ys e =
    let f = e x in
    let g = rw (same-refl x) at f in
    let found = take_out ys x (some_there (same x) ys (omega (arith, g))) in
    let back = IsPermutation-insert found.rest found.at x in
    let rest : IsPermutation xs found.rest =
    same_times xs found.rest
    (λ z. less_one (same z x) true x (filter (same z) xs) (filter (same z) found.rest)
    (e z ∙ (ap (λ l. times l z) found.is ∙ sym (filter-permutation (same z) (x ∷ found.rest) (insert found.rest found.at x) back)))) in
    subst (λ l. IsPermutation (x ∷ xs) l) (sym found.is)
    (IsPermutation-trans (x ∷ xs) (x ∷ found.rest) (insert found.rest found.at x) (IsPermutation-cons x xs found.rest rest) back)

-- what stands among those that pass a test
passes_same : (p : Signal → Bool) (x y : Signal) (b : Bool) → same y x ≡ true → p x ≡ b → p y ≡ b
passes_same p x y b is passes = ap p (same-eq y x is) ∙ passes

has_filter_step : (p : Signal → Bool) (x y : Signal) (xs : List Signal) (a b : Bool) → same y x ≡ a → p x ≡ b → has (filter p xs) y ≡ (p y && has xs y) →
    has (cond b (x ∷ filter p xs) (filter p xs)) y ≡ (p y && (a || has xs y))
has_filter_step p x y xs true true is passes ih = rw (is, passes_same p x y true is passes) refl
has_filter_step p x y xs true false is passes ih = ih ∙ rw (passes_same p x y false is passes) refl
has_filter_step p x y xs false true is passes ih = rw is ih
has_filter_step p x y xs false false is passes ih = ih

pub and_false : (b : Bool) → false ≡ (b && false)
and_false true = refl
and_false false = refl

pub has_filter : (p : Signal → Bool) (xs : List Signal) (y : Signal) → has (filter p xs) y ≡ (p y && has xs y)
has_filter p [] y = and_false (p y)
has_filter p (x ∷ xs) y = has_filter_step p x y xs (same y x) (p x) refl refl (has_filter p xs y)
