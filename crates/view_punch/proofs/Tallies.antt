-- Symbols that are counted, place by place.
use Rattle.std.proofs.Common.{◌≡◌, [], ◌∷◌, suc, ◌<◌, ◌≤◌, ℕ, ◌+◌, Bool, true, false, cond, List, length, take, refl, sym, ap, ◌∙◌, subst, arith, ⊎_elim, ◌⊎◌, inl, inr}
use Rattle.std.specs.Prelude.{Option, Some, None, map, slice_get, slice_index_or, option_map}
use Rattle.std.specs.Ordering.{is_eq}
use Rattle.std.specs.BTreeMap.{BTreeMap, IsOrdered, get, values}
use Rattle.std.specs.Map.{keys_of, values_of}
use Rattle.std.specs.List.Sorted.{IsStrictlySortedBy}
use Rattle.std.proofs.Math.Seq.{take-length}
use Rattle.std.proofs.lemmas.Map.Entries.{btree_map_get_place, place_from_lookup}
use Rattle.std.proofs.lemmas.Option.{slice_get_within, get_or_from_slice_get, slice_get-get_or, slice_get-map}
use Rattle.std.proofs.lemmas.List.Sums.{count_by_more_no, count_by_more_yes}
use Rattle.desk_ops.specs.declared.op.Symbol.{Symbol}
use Rattle.desk_ops.specs.Op.{is_line_feed}
use Rattle.desk_ops.specs.contracts.op.SymbolOrd.TheImpl.Laws.{matches_eq-law, total-law}
use Rattle.std.proofs.lemmas.Bool.{cases_lt, false≢true}
use Rattle.desk_case.specs.Case.{same_symbol}
use Rattle.desk_ops.proofs.Symbols.{symbol_same, symbol_itself}
use Rattle.view_punch.specs.declared.sorts.Sort.{Sort}
use Rattle.view_punch.specs.Sorts.{AreSortsOf, HasSort, IsSortOf, StandsAt, symbol_cmp, wanted_of}
use Rattle.view_punch.specs.Counting.{AreTallies, Counts, IsKnown, IsTallied, counted}

-- one symbol stands at a place
one_stands : (copy : List Symbol) (place : ℕ) (s q : Symbol) → StandsAt copy s place → StandsAt copy q place → same_symbol q s ≡ true
one_stands copy place s q here there = let e : q ≡ s = cc in subst (λ (x : Symbol). same_symbol q x ≡ true) e (symbol_itself q)

-- how often a symbol is wanted after one more place
pub wanted_no : (copy : List Symbol) (n : ℕ) (s q : Symbol) → StandsAt copy s n → same_symbol q s ≡ false → wanted_of (take (n + 1) copy) q ≡ wanted_of (take n copy) q
wanted_no copy n s q here other =
    count_by_more_no (same_symbol q) copy n s (slice_get_within copy n s here) (subst (λ (x : Symbol). same_symbol q x ≡ false) (sym (get_or_from_slice_get copy n s s here)) other)

pub wanted_yes : (copy : List Symbol) (n : ℕ) (s : Symbol) → StandsAt copy s n → wanted_of (take (n + 1) copy) s ≡ wanted_of (take n copy) s + 1
wanted_yes copy n s here =
    count_by_more_yes (same_symbol s) copy n s (slice_get_within copy n s here) (subst (λ (x : Symbol). same_symbol s x ≡ true) (sym (get_or_from_slice_get copy n s s here)) (symbol_itself s))

at_most : (place n : ℕ) → place < n + 1 → (place < n) ⊎ (place ≡ n)
at_most place n below = ⊎_elim (λ (under : place < n). inl under) (λ (over : n ≤ place). inr (omega arith)) (cases_lt place n)

under_or_over : (place n : ℕ) → (place < n) ⊎ (n ≤ place)
under_or_over place n = cases_lt place n

-- another symbol
pub known_other : (copy : List Symbol) (n : ℕ) (s q : Symbol) (known : Option Sort) → StandsAt copy s n → same_symbol q s ≡ false → IsKnown copy n q known → IsKnown copy (n + 1) q known
known_other copy n s q None here other is = λ printed.
    let a = is printed in
    record {
      wanted = wanted_no copy n s q here other ∙ a.wanted;
      nowhere = λ place below stands. ⊎_elim (λ (under : place < n). a.nowhere place under stands) (λ (at : place ≡ n). let same = one_stands copy n s q here (subst (StandsAt copy q) at stands) in cc) (at_most place n below);
    }
known_other copy n s q (Some sort) here other is =
    record { named = is.named; printed = is.printed; wanted = is.wanted ∙ sym (wanted_no copy n s q here other); first = is.first; earliest = is.earliest }

-- the symbol itself
pub known_more : (copy : List Symbol) (n : ℕ) (s : Symbol) (known : Option Sort) → StandsAt copy s n → is_line_feed s ≡ false → IsKnown copy n s known → IsTallied copy (n + 1) s (counted s n known)
known_more copy n s None here printed is =
    let a = is printed in
    record {
      named = refl;
      printed = printed;
      wanted = sym (wanted_yes copy n s here ∙ ap (λ w. w + 1) a.wanted);
      first = here;
      earliest = λ place stands. ⊎_elim (λ (under : place < n). absurd (a.nowhere place under stands)) (λ (over : n ≤ place). over) (under_or_over place n);
    }
known_more copy n s (Some sort) here printed is =
    record { named = is.named; printed = is.printed; wanted = ap (λ w. w + 1) is.wanted ∙ sym (wanted_yes copy n s here); first = is.first; earliest = is.earliest }

-- a line feed is not counted
pub known_skipped : (copy : List Symbol) (n : ℕ) (s q : Symbol) (known : Option Sort) → StandsAt copy s n → is_line_feed s ≡ true → IsKnown copy n q known → IsKnown copy (n + 1) q known
known_skipped copy n s q known here feed is = by (same_symbol q s) refl
  where
    feed_too : same_symbol q s ≡ true → is_line_feed q ≡ true
    feed_too same = subst (λ (x : Symbol). is_line_feed x ≡ true) (sym (symbol_same q s same)) feed

    is_feed : (o : Option Sort) → is_line_feed q ≡ true → IsKnown copy n q o → IsKnown copy (n + 1) q o
    is_feed None fed is = λ printed. cc
    is_feed (Some sort) fed is = let p = is.printed in cc

    by : (b : Bool) → same_symbol q s ≡ b → IsKnown copy (n + 1) q known
    by true e = is_feed known (feed_too e) is
    by false e = known_other copy n s q known here e is

-- symbols that are equal by their order are one
pub ordered_same : (s q : Symbol) → is_eq (symbol_cmp s q) ≡ same_symbol s q
ordered_same s q = sym (matches_eq-law s q)

pub other_too : (s q : Symbol) → is_eq (symbol_cmp s q) ≡ false → same_symbol q s ≡ false
other_too s q e = by (same_symbol q s) refl
  where
    by : (b : Bool) → same_symbol q s ≡ b → same_symbol q s ≡ false
    by true same =
        let one : q ≡ s = symbol_same q s same in
        let itself : same_symbol s q ≡ true = subst (λ (x : Symbol). same_symbol s x ≡ true) (sym one) (symbol_itself s) in
        absurd (false≢true (sym e ∙ ordered_same s q ∙ itself))
    by false other = other

-- a symbol is counted
pub known_counted : (copy : List Symbol) (n : ℕ) (s q : Symbol) (before after : BTreeMap Symbol Sort) → StandsAt copy s n → is_line_feed s ≡ false → Counts before after s n
    → ((x : Symbol) → IsKnown copy n x (get symbol_cmp before x)) → IsKnown copy (n + 1) q (get symbol_cmp after q)
known_counted copy n s q before after here printed counts known = rw (counts q) (by (is_eq (symbol_cmp s q)) refl)
  where
    by : (b : Bool) → is_eq (symbol_cmp s q) ≡ b → IsKnown copy (n + 1) q (cond b (Some (counted s n (get symbol_cmp before s))) (get symbol_cmp before q))
    by true e =
        let same : s ≡ q = symbol_same s q (sym (ordered_same s q) ∙ e) in
        subst (λ (x : Symbol). IsTallied copy (n + 1) x (counted s n (get symbol_cmp before s))) same (known_more copy n s (get symbol_cmp before s) here printed (known s))
    by false e = known_other copy n s q (get symbol_cmp before q) here (other_too s q e) (known q)

-- ---- the sorts, of what is known of all symbols

whole_take : (copy : List Symbol) → take (length copy) copy ≡ copy
whole_take copy = take-length copy

sort_of : (copy : List Symbol) (q : Symbol) (sort : Sort) → IsTallied copy (length copy) q sort → IsSortOf copy sort
sort_of copy q sort is =
    record {
      printed = subst (λ (x : Symbol). is_line_feed x ≡ false) (sym is.named) is.printed;
      wanted = is.wanted ∙ ap (λ l. wanted_of l q) (whole_take copy) ∙ ap (wanted_of copy) (sym is.named);
      first = subst (λ (x : Symbol). StandsAt copy x sort.first) (sym is.named) is.first;
      earliest = λ place stands. is.earliest place (subst (λ (x : Symbol). StandsAt copy x place) is.named stands);
    }

-- what an entry holds
entry_known : (copy : List Symbol) (m : BTreeMap Symbol Sort) → AreTallies copy m → IsOrdered symbol_cmp m → (k : ℕ) (q : Symbol) (sort : Sort) → slice_get m.entries k ≡ Some (q, sort) → IsTallied copy (length copy) q sort
entry_known copy m known ordered k q sort is =
    subst (IsKnown copy (length copy) q) (btree_map_get_place total-law m k q sort ordered is) (known q)

value_known : (copy : List Symbol) (m : BTreeMap Symbol Sort) → AreTallies copy m → IsOrdered symbol_cmp m → (k : ℕ) (o : Option (Symbol × Sort)) (sort : Sort) → slice_get m.entries k ≡ o → option_map (λ e. e.1) o ≡ Some sort → IsSortOf copy sort
value_known copy m known ordered k None sort is at = cc
value_known copy m known ordered k (Some e) sort is at =
    let same : e.1 ≡ sort = cc in
    subst (IsSortOf copy) same (sort_of copy e.0 e.1 (entry_known copy m known ordered k e.0 e.1 is))

-- a key is the symbol of its sort
keys_named : (es : List (Symbol × Sort)) → ((k : ℕ) (q : Symbol) (sort : Sort) → slice_get es k ≡ Some (q, sort) → sort.symbol ≡ q) → keys_of es ≡ map (λ sort. sort.symbol) (values_of es)
keys_named [] named = refl
keys_named (e ∷ es) named =
    let first = named 0 e.0 e.1 refl in
    let rest = keys_named es (λ k q sort is. named (suc k) q sort is) in
    cc

has_sort : (copy : List Symbol) (m : BTreeMap Symbol Sort) (symbol : Symbol) (place : ℕ) (o : Option Sort) → get symbol_cmp m symbol ≡ o → IsKnown copy (length copy) symbol o → StandsAt copy symbol place → is_line_feed symbol ≡ false → HasSort (values m) symbol
has_sort copy m symbol place None is known stands printed = absurd ((known printed).nowhere place (slice_get_within copy place symbol stands) stands)
has_sort copy m symbol place (Some sort) is known stands printed =
    let found = place_from_lookup (λ q. is_eq (symbol_cmp symbol q)) m.entries sort is in
    (found.0, sort, slice_get-map (λ (e : Symbol × Sort). e.1) m.entries found.0 ∙ ap (option_map (λ (e : Symbol × Sort). e.1)) found.2, known.named)

pub are_sorts : (copy : List Symbol) (m : BTreeMap Symbol Sort) (sorts : List Sort) → AreTallies copy m → IsOrdered symbol_cmp m → sorts ≡ values m → AreSortsOf copy sorts
are_sorts copy m sorts known ordered same = subst (AreSortsOf copy) (sym same) (record {
  each = λ k d below. value_known copy m known ordered k (slice_get m.entries k) (slice_index_or (values m) k d) refl (sym (slice_get-map (λ (e : Symbol × Sort). e.1) m.entries k) ∙ slice_get-get_or (values m) k d below);
  whole = λ symbol place stands printed. has_sort copy m symbol place (get symbol_cmp m symbol) refl (known symbol) stands printed;
  ascending = subst (IsStrictlySortedBy symbol_cmp) (keys_named m.entries (λ k q sort is. (entry_known copy m known ordered k q sort is).named)) ordered;
})
