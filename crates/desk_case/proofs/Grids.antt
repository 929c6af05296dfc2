-- What stands where in a grid.
use Rattle.std.proofs.Common.{◌≡◌, ◌∙◌, ℕ, zero, suc, ◌+◌, ◌<◌, Bool, true, false, cond, if◌then◌else◌, List, [], ◌∷◌, ◌++◌, length, Option, Some, None, refl, sym, ap, subst, arith, append_assoc, inl, inr}
use Rattle.std.specs.Prelude.{◌⊎◌, is_some, slice_get, IfSome, MatchOption, option_map}
use Rattle.std.specs.Option.{option_flatten}
use Rattle.std.specs.List.{position_from}
use Rattle.std.proofs.lemmas.Bool.{false≢true}
use Rattle.std.proofs.lemmas.Option.{slice_get_within}
use Rattle.std.proofs.lemmas.List.{append-nil}
use Rattle.desk_signals.specs.declared.Cell.{Cell}
use Rattle.desk_ops.specs.declared.op.Symbol.{Symbol}
use Rattle.desk_case.specs.Names.{place, cell_of_place, IsCell}
use Rattle.desk_case.specs.Case.{CaseValues, symbol_at, is_held, place_in, cell_of, StandsAt, IsDistinct, IsCase}
use Rattle.desk_case.specs.File.{or_else, doubled_after, first_doubled}
use Rattle.desk_case.specs.Laws.{IsDoubledAt, IsFirstDoubled, DoubledIsFirst, CellsAndSymbolsAreInverse}
use Rattle.desk_ops.proofs.Symbols.{symbol_same, symbol_itself}
use Rattle.desk_case.proofs.Cells.{place_is_cell, place_back, cell_back}

abbrev pub Grid : Type 0
Grid = List (Option Symbol)

some_not_none : {A : Type 0} {x : A} → Some x ≡ None → ⊥
some_not_none e = cc

-- a test passes at a symbol alone
pub held_is : (s : Symbol) (m : Option Symbol) → is_held s m ≡ true → m ≡ Some s
held_is s None e = absurd (false≢true e)
held_is s (Some t) e = ap Some (sym (symbol_same s t e))

pub held_itself : (s : Symbol) (m : Option Symbol) → m ≡ Some s → is_held s m ≡ true
held_itself s m e = rw e (symbol_itself s)

-- the first place that holds a symbol, in a grid whose first place has the number k
pub record IsFoundFrom (k : ℕ) (grid : Grid) (s : Symbol) (n : ℕ) : Type 0 where
  pub index : ℕ
  pub is : n ≡ k + index
  pub stands : StandsAt grid s index

pub record IsNowhere (grid : Grid) (s : Symbol) : Type 0 where
  pub not : (n : ℕ) → StandsAt grid s n → ⊥

nowhere_more : (m : Option Symbol) (ms : Grid) (s : Symbol) → is_held s m ≡ false → IsNowhere ms s → (n : ℕ) → StandsAt (m ∷ ms) s n → ⊥
nowhere_more m ms s test rest zero at =
    let here : m ≡ Some s = cc in
    false≢true (sym test ∙ held_itself s m here)
nowhere_more m ms s test rest (suc n) at = rest.not n at

find_at : (k : ℕ) (m : Option Symbol) (ms : Grid) (s : Symbol) (b : Bool) (rest : Option ℕ) → is_held s m ≡ b
    → MatchOption rest (IsNowhere ms s) (IsFoundFrom (k + 1) ms s)
    → MatchOption (cond b (Some k) rest) (IsNowhere (m ∷ ms) s) (IsFoundFrom k (m ∷ ms) s)
find_at k m ms s true rest test ih = record { index = 0; is = omega arith; stands = ap Some (held_is s m test) }
find_at k m ms s false None test ih = record { not = nowhere_more m ms s test ih }
find_at k m ms s false (Some n) test ih = record { index = suc ih.index; is = omega (arith, ih.is); stands = ih.stands }

pub find_from : (k : ℕ) (grid : Grid) (s : Symbol) → MatchOption (position_from (is_held s) k grid) (IsNowhere grid s) (IsFoundFrom k grid s)
find_from k [] s = record { not = λ n at. some_not_none (sym at) }
find_from k (m ∷ ms) s = find_at k m ms s (is_held s m) (position_from (is_held s) (k + 1) ms) refl (find_from (k + 1) ms s)

found_at : (grid : Grid) (s : Symbol) (n : ℕ) → IsFoundFrom 0 grid s n → StandsAt grid s n
found_at grid s n h = let same : h.index ≡ n = omega (arith, h.is) in subst (λ i. StandsAt grid s i) same h.stands

pub found : (grid : Grid) (s : Symbol) (n : ℕ) → place_in grid s ≡ Some n → StandsAt grid s n
found grid s n e = let reported = find_from 0 grid s in found_at grid s n (rw e at reported)

pub not_found : (grid : Grid) (s : Symbol) → place_in grid s ≡ None → IsNowhere grid s
not_found grid s e = let reported = find_from 0 grid s in rw e at reported

-- what stands in the first part of a grid, and what was put behind it
get_left : (xs ys : Grid) (n : ℕ) → n < length xs → slice_get (xs ++ ys) n ≡ slice_get xs n
get_left [] ys n h = absurd (omega arith)
get_left (x ∷ xs) ys zero h = refl
get_left (x ∷ xs) ys (suc n) h = get_left xs ys n (omega arith)

get_here : (xs : Grid) (m : Option Symbol) (ys : Grid) → slice_get (xs ++ m ∷ ys) (length xs) ≡ Some m
get_here [] m ys = refl
get_here (x ∷ xs) m ys = get_here xs m ys

pub record StandsEarlier (xs : Grid) (s : Symbol) (n : ℕ) : Type 0 where
  pub within : n < length xs
  pub stands : StandsAt xs s n

pub record StandsLast (xs : Grid) (m : Option Symbol) (s : Symbol) (n : ℕ) : Type 0 where
  pub last : n ≡ length xs
  pub is : m ≡ Some s

pushed : (xs : Grid) (m : Option Symbol) (s : Symbol) (n : ℕ) → StandsAt (xs ++ m ∷ []) s n → StandsEarlier xs s n ⊎ StandsLast xs m s n
pushed [] m s zero at = inr (record { last = refl; is = cc })
pushed [] m s (suc n) at = absurd (some_not_none (sym at))
pushed (x ∷ xs) m s zero at = inl (record { within = omega arith; stands = at })
pushed (x ∷ xs) m s (suc n) at =
    elim (pushed xs m s n at) [
      | inl before ↦ inl (record { within = omega (arith, before.within); stands = before.stands })
      | inr here ↦ inr (record { last = omega (arith, here.last); is = here.is })
    ]

distinct_pushed : (xs : Grid) (m : Option Symbol) → IsDistinct xs → ((s : Symbol) (n : ℕ) → m ≡ Some s → StandsAt xs s n → ⊥) → IsDistinct (xs ++ m ∷ [])
distinct_pushed xs m h new = record {
  once = λ s i j p q.
      elim (pushed xs m s i p) [
        | inl a ↦ elim (pushed xs m s j q) [ inl b ↦ h.once s i j a.stands b.stands | inr b ↦ absurd (new s i b.is a.stands) ]
        | inr a ↦ elim (pushed xs m s j q) [ inl b ↦ absurd (new s j a.is b.stands) | inr b ↦ omega (arith, a.last, b.last) ]
      ];
}

none_doubled : (xs : Grid) (m : Option Symbol) (ys : Grid) → IsDistinct xs → (s : Symbol) (n : ℕ) → n < length xs → IsDoubledAt (xs ++ m ∷ ys) s n → ⊥
none_doubled xs m ys h s n within d =
    let here : StandsAt xs s n = sym (get_left xs (m ∷ ys) n within) ∙ d.here in
    let there : StandsAt xs s d.earlier = sym (get_left xs (m ∷ ys) d.earlier (omega (arith, d.before))) ∙ d.there in
    absurd (omega (arith, d.before, h.once s n d.earlier here there))

doubled_here : (xs : Grid) (s : Symbol) (ys : Grid) (n : ℕ) → IsDistinct xs → StandsAt xs s n → IsFirstDoubled (xs ++ Some s ∷ ys) s
doubled_here xs s ys n h at =
    let within = slice_get_within xs n (Some s) at in
    record {
      at = length xs;
      doubled = record { here = get_here xs (Some s) ys; earlier = n; before = within; there = get_left xs (Some s ∷ ys) n within ∙ at };
      least = λ other i below d. none_doubled xs (Some s) ys h other i below d;
    }

abbrev Doubling : Grid → Option Symbol → Type 0
Doubling grid o = MatchOption o (IsDistinct grid) (IsFirstDoubled grid)

met_at : (xs : Grid) (s : Symbol) (ys : Grid) (o : Option ℕ) (rest : Option Symbol) → place_in xs s ≡ o → IsDistinct xs
    → (IsDistinct (xs ++ Some s ∷ []) → Doubling (xs ++ Some s ∷ ys) rest)
    → Doubling (xs ++ Some s ∷ ys) (or_else (if is_some o then Some s else None) rest)
met_at xs s ys (Some n) rest e h ih = doubled_here xs s ys n h (found xs s n e)
met_at xs s ys None rest e h ih =
    let nowhere = not_found xs s e in
    ih (distinct_pushed xs (Some s) h (λ t n same at.
    let one : s ≡ t = cc in
    nowhere.not n (subst (λ x. StandsAt xs x n) (sym one) at)))

doubling : (xs ys : Grid) → IsDistinct xs → Doubling (xs ++ ys) (doubled_after xs ys)
doubling xs [] h = rw (append-nil xs) h
doubling xs (None ∷ ys) h =
    let next = distinct_pushed xs None h (λ s n same at. some_not_none (sym same)) in
    let rest = doubling (xs ++ None ∷ []) ys next in
    subst (λ g. Doubling g (doubled_after (xs ++ None ∷ []) ys)) (append_assoc xs (None ∷ []) ys) rest
doubling xs (Some s ∷ ys) h =
    met_at xs s ys (place_in xs s) (doubled_after (xs ++ Some s ∷ []) ys) refl h (λ next.
    subst (λ g. Doubling g (doubled_after (xs ++ Some s ∷ []) ys)) (append_assoc xs (Some s ∷ []) ys) (doubling (xs ++ Some s ∷ []) ys next))

nothing_distinct : IsDistinct []
nothing_distinct = record { once = λ s m n p q. absurd (some_not_none (sym p)) }

pub doubled : DoubledIsFirst
doubled grid = doubling [] grid nothing_distinct

pub distinct : (grid : Grid) → first_doubled grid ≡ None → IsDistinct grid
distinct grid e = let reported = doubled grid in rw e at reported

-- from a symbol to its cell and back
flattened : (o : Option (Option Symbol)) (s : Symbol) → option_flatten o ≡ Some s → o ≡ Some (Some s)
flattened None s e = absurd (some_not_none (sym e))
flattened (Some m) s e = ap Some e

cell_there : (case : CaseValues) → IsCase case → (s : Symbol) (c : Cell) (o : Option ℕ) → place_in case.grid s ≡ o → option_map cell_of_place o ≡ Some c
    → (symbol_at case c ≡ Some s) × IsCell c
cell_there case k s c None e reported = absurd (some_not_none (sym reported))
cell_there case k s c (Some n) e reported =
    let at = found case.grid s n e in
    let within : n < 255 = omega (arith, slice_get_within case.grid n (Some s) at, k.cells) in
    let is : cell_of_place n ≡ c = cc in
    let back : place c ≡ n = ap place (sym is) ∙ place_back n within in
    (ap (λ i. option_flatten (slice_get case.grid i)) back ∙ ap option_flatten at, subst (λ x. IsCell x) is (place_is_cell n within))

symbol_there : (case : CaseValues) → IsCase case → (s : Symbol) (c : Cell) (o : Option ℕ) → place_in case.grid s ≡ o → StandsAt case.grid s (place c) → IsCell c
    → option_map cell_of_place o ≡ Some c
symbol_there case k s c None e at cell = let nowhere = not_found case.grid s e in absurd (nowhere.not (place c) at)
symbol_there case k s c (Some n) e at cell =
    let same = k.distinct.once s n (place c) (found case.grid s n e) at in
    ap (λ i. Some (cell_of_place i)) same ∙ ap Some (cell_back c cell)

pub inverse : CellsAndSymbolsAreInverse
inverse case k s c = (
  λ e. cell_there case k s c (place_in case.grid s) refl e,
  λ h. symbol_there case k s c (place_in case.grid s) refl (flattened (slice_get case.grid (place c)) s h.0) h.1,
)

pub cells_reported : (case : CaseValues) → IsCase case → (s : Symbol) (o : Option Cell) → o ≡ cell_of case s → IfSome o (λ c. symbol_at case c ≡ Some s)
cells_reported case k s None e = tt
cells_reported case k s (Some c) e = ((inverse case k s c).0 (sym e)).0

pub symbols_reported : (case : CaseValues) → IsCase case → (c : Cell) → IsCell c → (o : Option Symbol) → o ≡ symbol_at case c → IfSome o (λ s. cell_of case s ≡ Some c)
symbols_reported case k c cell None e = tt
symbols_reported case k c cell (Some s) e = (inverse case k s c).1 (sym e, cell)
