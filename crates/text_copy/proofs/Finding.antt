-- Where a text stands: what the tests say, and what a list of all places has.
use Rattle.std.proofs.Common.{◌≡◌, ℕ, ◌+◌, ◌-◌, ◌≤◌, Bool, true, false, ◌&&◌, cond, List, [], ◌∷◌, ◌++◌, length, take, drop, refl, sym, ap, ap₂, Vec, ◌∙◌, arith, add-one}
use Rattle.std.specs.Prelude.{◌==◌}
use Rattle.std.specs.List.{filter, range_with_len}
use Rattle.std.specs.Cmp.Lexicographic.{pointwise}
use Rattle.std.proofs.lemmas.Bool.{and_parts, false≢true}
use Rattle.std.proofs.lemmas.List.{append-nil, length-drop, take_rest}
use Rattle.std.proofs.lemmas.List.Elements.{filter-append}
use Rattle.desk_ops.proofs.Lists.{among-filter, among-filter_from}
use Rattle.desk_ops.proofs.Symbols.{style_is, same_symbols}
use Rattle.desk_ops.proofs.Ranges.{range_suc, rise_of, range_among, among_range}
use Rattle.desk_ops.specs.Lists.{Among}
use Rattle.desk_ops.specs.declared.op.Symbol.{Symbol}
use Rattle.desk_ops.specs.contracts.op.SymbolPartialEq.TheImpl as symbol_eq
use Rattle.text_copy.specs.Places.{IsPlace, begins, places_of, same_symbol, stands}
use Rattle.text_copy.specs.PlaceLaws.{AreAllPlaces}

-- ---- the tests

symbol_is : (s t : Symbol) → (symbol_eq.eq-value).it s t ≡ same_symbol s t
symbol_is s t = ap (λ b. b && (s.ch == t.ch)) (style_is s.style t.style)

symbol_same : (s t : Symbol) → same_symbol s t ≡ true → s ≡ t
symbol_same s t e = (same_symbols s t).0 (symbol_is s t ∙ e)

symbol_itself : (s : Symbol) → same_symbol s s ≡ true
symbol_itself s = sym (symbol_is s s) ∙ (same_symbols s s).1 refl

begins_is : (text copy : List Symbol) → pointwise (symbol_eq.eq-value).it text (take (length text) copy) ≡ begins text copy
begins_is [] copy = refl
begins_is (s ∷ text) [] = refl
begins_is (s ∷ text) (t ∷ copy) = ap₂ (λ a b. a && b) (symbol_is s t) (begins_is text copy)

pub stands_is : (text copy : List Symbol) (place : ℕ) → pointwise (symbol_eq.eq-value).it text (take (length text) (take (length copy - place) (drop place copy))) ≡ stands text copy place
stands_is text copy place = ap (λ l. pointwise (symbol_eq.eq-value).it text (take (length text) l)) (take_rest copy place) ∙ begins_is text (drop place copy)

-- ---- the list of all places

filter_more : (p : ℕ → Bool) (n : ℕ) → filter p (range_with_len 0 (n + 1)) ≡ filter p (range_with_len 0 n) ++ cond (p n) (n ∷ []) []
filter_more p n = let e : 0 + n ≡ n = omega arith in ap (λ k. filter p (range_with_len 0 k)) (add-one n) ∙ ap (filter p) (range_suc 0 n) ∙ filter-append p (range_with_len 0 n) ((0 + n) ∷ []) ∙ rw e refl

-- the list after a place at which the test was made
module _ {Z : Type 0} (p : ℕ → Bool) (n : ℕ) (before mid after : Vec ℕ Z) (r : Bool) (is : before.items ≡ filter p (range_with_len 0 n)) (reports : r ≡ p n) (same : after ≡ mid) where
  pub one_more : r ≡ true → mid.items ≡ before.items ++ n ∷ [] → after.items ≡ filter p (range_with_len 0 (n + 1))
  one_more holds more =
      ap (λ (v : Vec ℕ Z). v.items) same ∙ more ∙ ap (λ l. l ++ n ∷ []) is ∙ sym (filter_more p n ∙ ap (λ b. filter p (range_with_len 0 n) ++ cond b (n ∷ []) []) (sym reports ∙ holds))

  pub none_more : r ≡ false → mid ≡ before → after.items ≡ filter p (range_with_len 0 (n + 1))
  none_more fails kept =
      ap (λ (v : Vec ℕ Z). v.items) (same ∙ kept) ∙ is
      ∙ sym (filter_more p n ∙ ap (λ b. filter p (range_with_len 0 n) ++ cond b (n ∷ []) []) (sym reports ∙ fails) ∙ append-nil (filter p (range_with_len 0 n)))

pub found_all : (text copy : List Symbol) (places : List ℕ) (n : ℕ) → n ≡ length copy → places ≡ filter (stands text copy) (range_with_len 0 (n + 1)) → places ≡ places_of text copy
unfolding places_of
found_all text copy places n e is = is ∙ ap (λ k. filter (stands text copy) (range_with_len 0 (k + 1))) e

-- ---- what the list has

begins_true : (text copy : List Symbol) → begins text copy ≡ true → (length text ≤ length copy) × (take (length text) copy ≡ text)
begins_true [] copy e = (omega arith, refl)
begins_true (s ∷ text) [] e = absurd (false≢true e)
begins_true (s ∷ text) (t ∷ copy) e =
    let parts = and_parts (same_symbol s t) (begins text copy) e in
    let rest = begins_true text copy parts.1 in
    (omega (arith, rest.0), ap₂ (λ x xs. x ∷ xs) (sym (symbol_same s t parts.0)) rest.1)

begins_from : (text copy : List Symbol) → take (length text) copy ≡ text → begins text copy ≡ true
begins_from [] copy e = refl
begins_from (s ∷ text) [] e = absurd (let f : [] ≡ s ∷ text = e in cc)
begins_from (s ∷ text) (t ∷ copy) e =
    let first : t ≡ s = cc in
    let rest : take (length text) copy ≡ text = cc in
    rw (first, symbol_itself s, begins_from text copy rest) refl

is_place : (text copy : List Symbol) (place : ℕ) → place ≤ length copy → stands text copy place ≡ true → IsPlace text copy place
is_place text copy place le e =
    let found = begins_true text (drop place copy) e in
    (omega (arith, length-drop place copy, found.0, le), found.1)

of_place : (text copy : List Symbol) (place : ℕ) → Among place (places_of text copy) → IsPlace text copy place
unfolding places_of
of_place text copy place m =
    let h = among-filter (stands text copy) (range_with_len 0 (length copy + 1)) place m in
    is_place text copy place (omega (arith, (range_among 0 (length copy + 1) place h.0).1)) h.1

to_place : (text copy : List Symbol) (place : ℕ) → IsPlace text copy place → Among place (places_of text copy)
unfolding places_of
to_place text copy place is =
    among-filter_from (stands text copy) (range_with_len 0 (length copy + 1)) place (among_range 0 (length copy + 1) place (omega arith) (omega (arith, is.0))) (begins_from text (drop place copy) is.1)

pub all_places : AreAllPlaces
unfolding places_of
all_places text copy = (rise_of (stands text copy) 0 (length copy + 1), λ place. (of_place text copy place, to_place text copy place))
