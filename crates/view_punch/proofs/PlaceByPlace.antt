-- Places that are found, place by place.
use Rattle.std.proofs.Common.{◌≡◌, ℕ, ◌+◌, Bool, true, false, cond, List, [], ◌∷◌, ◌++◌, Vec, refl, sym, ap, ap₂, ◌∙◌, subst, add-one, zero-add}
use Rattle.std.specs.Prelude.{Some, None, slice_get}
use Rattle.std.specs.List.{filter, range_with_len}
use Rattle.std.specs.Ordering.{is_eq}
use Rattle.std.specs.BTreeMap.{BTreeMap, get}
use Rattle.std.proofs.lemmas.Bool.{false≢true}
use Rattle.std.proofs.lemmas.List.{append-nil}
use Rattle.std.proofs.lemmas.List.Elements.{filter-append}
use Rattle.desk_ops.proofs.Ranges.{range_suc}
use Rattle.desk_ops.specs.declared.op.Symbol.{Symbol}
use Rattle.desk_case.specs.Case.{CaseValues, is_held, same_symbol}
use Rattle.desk_ops.proofs.Symbols.{symbol_same, symbol_itself}
use Rattle.view_punch.specs.Sorts.{symbol_cmp}
use Rattle.view_punch.specs.Places.{Adds, AreFoundTo, lacks, places_to}
use Rattle.view_punch.proofs.Tallies.{ordered_same, other_too}

-- one number more
from_zero : (n : ℕ) → range_with_len 0 (n + 1) ≡ range_with_len 0 n ++ n ∷ []
from_zero n = ap (range_with_len 0) (add-one n) ∙ range_suc 0 n ∙ ap (λ k. range_with_len 0 n ++ k ∷ []) (zero-add n)

-- one place more
pub places_more : (copy : List Symbol) (n : ℕ) (q : Symbol) → places_to copy (n + 1) q ≡ places_to copy n q ++ cond (is_held q (slice_get copy n)) (n ∷ []) []
unfolding places_to
places_more copy n q =
    let test : ℕ → Bool = λ place. is_held q (slice_get copy place) in
    ap (filter test) (from_zero n) ∙ filter-append test (range_with_len 0 n) (n ∷ [])

-- a symbol is another's equal from either side
same_either : (s q : Symbol) → is_eq (symbol_cmp s q) ≡ same_symbol q s
same_either s q = by (is_eq (symbol_cmp s q)) refl
  where
    by : (b : Bool) → is_eq (symbol_cmp s q) ≡ b → is_eq (symbol_cmp s q) ≡ same_symbol q s
    by true e = e ∙ sym (subst (λ (x : Symbol). same_symbol x s ≡ true) (symbol_same s q (sym (ordered_same s q) ∙ e)) (symbol_itself s))
    by false e = e ∙ sym (other_too s q e)

-- what a place adds to those of a symbol
added : (copy : List Symbol) (n : ℕ) (s q : Symbol) → slice_get copy n ≡ Some s → cond (is_eq (symbol_cmp s q)) (n ∷ []) [] ≡ cond (is_held q (slice_get copy n)) (n ∷ []) []
added copy n s q here = ap (λ b. cond b (n ∷ []) []) (same_either s q ∙ sym (ap (is_held q) here))

pub found_none : {A : Type 0} (copy : List Symbol) (case : CaseValues) (found : BTreeMap Symbol (Vec ℕ A)) → ((q : Symbol) → get symbol_cmp found q ≡ None) → AreFoundTo copy case 0 found
unfolding places_to
found_none copy case found none q lacking = rw (none q) refl

-- the place of a symbol that the case lacks is added
pub found_more : {A : Type 0} (copy : List Symbol) (case : CaseValues) (n : ℕ) (s : Symbol) (before after : BTreeMap Symbol (Vec ℕ A)) → slice_get copy n ≡ Some s → Adds before after s n
    → AreFoundTo copy case n before → AreFoundTo copy case (n + 1) after
found_more copy case n s before after here adds found q lacking =
    adds q ∙ ap₂ (λ xs ys. xs ++ ys) (found q lacking) (added copy n s q here) ∙ sym (places_more copy n q)

-- a symbol that the case has is passed over
pub found_skipped : {A : Type 0} (copy : List Symbol) (case : CaseValues) (n : ℕ) (s : Symbol) (found : BTreeMap Symbol (Vec ℕ A)) → slice_get copy n ≡ Some s → lacks case s ≡ false
    → AreFoundTo copy case n found → AreFoundTo copy case (n + 1) found
found_skipped copy case n s found here has is q lacking =
    is q lacking ∙ sym (append-nil (places_to copy n q)) ∙ ap (λ b. places_to copy n q ++ cond b (n ∷ []) []) (sym (ap (is_held q) here ∙ other)) ∙ sym (places_more copy n q)
  where
    apart : (b : Bool) → same_symbol q s ≡ b → same_symbol q s ≡ false
    apart true e = absurd (false≢true (sym has ∙ ap (lacks case) (sym (symbol_same q s e)) ∙ lacking))
    apart false e = e

    other : same_symbol q s ≡ false
    other = apart (same_symbol q s) refl
