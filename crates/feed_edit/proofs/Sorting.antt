-- Stamps by site and then by counter, each once, and the search among them.
use Rattle.std.proofs.Common.{◌≡◌, ◌∙◌, ℕ, zero, suc, ◌<◌, ◌≤◌, true, false, ◌&&◌, ◌||◌, List, [], ◌∷◌, length, get_or, refl, sym, ap, subst, inl, inr, arith, IsPermutation}
use Rattle.std.specs.Prelude.{◌↔◌, ◌==◌, Result, Ok, Err, nat_lt}
use Rattle.std.specs.List.{Contains, dedup, list_any}
use Rattle.std.specs.List.Sorted.{IsBinarySearchResult, IsSearchInRange, IsNonDecreasingBy, IsSorted, IsStrictlySortedBy}
use Rattle.std.specs.Ordering.{eq_by_cmp, is_eq, nat_cmp, ordering_index}
use Rattle.std.specs.Result.{is_ok}
use Rattle.std.specs.Cmp.{IsTotalOrder, IsEquivalence, tied_then, unsigned_tied}
use Rattle.std.specs.declared.cmp.Ordering.{Ordering}
use Rattle.std.specs.declared.cmp.Ordering.TheVariants.{Less, Equal, Greater}
use Rattle.std.proofs.lemmas.Bool.Decides.{nat_tests}
use Rattle.std.proofs.lemmas.Bool.{true≢false}
use Rattle.std.proofs.lemmas.Cmp.{and_equiv, nat_cmp_total, nat_eq_equiv, on_equiv, on_total, then_total}
use Rattle.std.proofs.lemmas.List.Kept.{Contains-dedup, Contains-from_dedup, IsStrictlySortedBy-dedup}
use Rattle.std.proofs.lemmas.List.Sorted.{Contains-permutation, IsPermutation-sym}
use Rattle.std.proofs.lemmas.Map.Keys.{Less-from_sorted}
use Rattle.desk_ops.specs.Lists.{Among}
use Rattle.desk_ops.proofs.Stamps.{by_cases}
use Rattle.feed_edit.specs.declared.stamps.SiteStamp.{SiteStamp}
use Rattle.feed_edit.specs.Stamps.{same_stamp, site_cmp}

pub site_total : IsTotalOrder site_cmp
site_total = then_total (on_total (λ (s : SiteStamp). s.site) nat_cmp_total) (on_total (λ (s : SiteStamp). s.counter) nat_cmp_total)

same_cmp : (a b : SiteStamp) → same_stamp a b ≡ eq_by_cmp site_cmp a b
same_cmp a b =
    sym (sym (tied_then (nat_cmp a.site b.site) (nat_cmp a.counter b.counter)) ∙ ap (λ t. t && is_eq (nat_cmp a.counter b.counter)) (unsigned_tied a.site b.site) ∙ ap (λ t. (a.site == b.site) && t) (unsigned_tied a.counter b.counter))

pub same_exact : (a b : SiteStamp) → same_stamp a b ≡ true → a ≡ b
same_exact a b e = grind (arith, nat_tests)

pub same_equiv : IsEquivalence same_stamp
same_equiv = and_equiv (on_equiv (λ (s : SiteStamp). s.site) nat_eq_equiv) (on_equiv (λ (s : SiteStamp). s.counter) nat_eq_equiv)

-- ---- the two words for what is in a list

at_among : {A : Type 0} (xs : List A) (x : A) (k : ℕ) → k < length xs → get_or xs k x ≡ x → Among x xs
at_among [] x k lt e = absurd (omega arith)
at_among (y ∷ ys) x zero lt e = inl e
at_among (y ∷ ys) x (suc k) lt e = inr (at_among ys x k (omega arith) e)

among_from : {A : Type 0} (xs : List A) (x : A) → Contains xs x → Among x xs
among_from xs x held = at_among xs x held.0 held.1 held.2

among_at : {A : Type 0} (xs : List A) (x : A) → Among x xs → Contains xs x
among_at [] x m = absurd m
among_at (y ∷ ys) x (inl e) = (0, omega arith, e)
among_at (y ∷ ys) x (inr m) = let c = among_at ys x m in (suc c.0, omega (arith, c.1), c.2)

-- ---- sorted, and each once

pub sorted_reported : (stamps sorted : List SiteStamp) (stamp : SiteStamp) → IsPermutation stamps sorted → Among stamp (dedup same_stamp sorted) ↔ Among stamp stamps
sorted_reported stamps sorted stamp moved = (
  λ m. among_from stamps stamp (Contains-permutation sorted stamps stamp (IsPermutation-sym stamps sorted moved) (Contains-from_dedup same_stamp sorted stamp (among_at _ stamp m))),
  λ m. among_from _ stamp (Contains-dedup same_equiv same_exact sorted stamp (Contains-permutation stamps sorted stamp moved (among_at stamps stamp m))),
)

pub sorted_once : (sorted : List SiteStamp) → IsSorted site_cmp sorted → IsStrictlySortedBy site_cmp (dedup same_stamp sorted)
sorted_once sorted up = IsStrictlySortedBy-dedup site_total same_cmp sorted up

-- ---- known, and a search

same_itself : (a : SiteStamp) → same_stamp a a ≡ true
same_itself a = grind (arith, nat_tests)

pub among_any : (xs : List SiteStamp) (x : SiteStamp) → list_any (same_stamp x) xs ≡ true → Among x xs
among_any [] x e = absurd (true≢false (sym e))
among_any (y ∷ ys) x e =
    by_cases (same_stamp x y)
    (λ s. inl (sym (same_exact x y s)))
    (λ s. inr (among_any ys x (sym (ap (λ b. b || list_any (same_stamp x) ys) s) ∙ e)))

pub any_among : (xs : List SiteStamp) (x : SiteStamp) → list_any (same_stamp x) xs ≡ false → Among x xs → ⊥
any_among [] x e m = m
any_among (y ∷ ys) x e (inl h) = true≢false (sym (ap (λ b. b || list_any (same_stamp x) ys) (ap (λ (s : SiteStamp). same_stamp x s) h ∙ same_itself x)) ∙ e)
any_among (y ∷ ys) x e (inr m) =
    by_cases (same_stamp x y)
    (λ s. true≢false (sym (ap (λ b. b || list_any (same_stamp x) ys) s) ∙ e))
    (λ s. any_among ys x (sym (ap (λ b. b || list_any (same_stamp x) ys) s) ∙ e) m)

at_most : (r : Ordering) → ordering_index r ≤ 2
at_most Less = omega arith
at_most Equal = omega arith
at_most Greater = omega arith

tied_exact : (a b : SiteStamp) → site_cmp a b ≡ Equal → a ≡ b
tied_exact a b e = same_exact a b (same_cmp a b ∙ ap is_eq e)

tied_itself_index : (a : SiteStamp) → site_cmp a a ≡ Equal
tied_itself_index a = grind (arith, nat_tests)

index_rises : (a b x : SiteStamp) → site_cmp a b ≡ Less → ordering_index (site_cmp a x) ≤ ordering_index (site_cmp b x)
index_rises a b x l = go (site_cmp b x) refl
  where
    go : (r : Ordering) → site_cmp b x ≡ r → ordering_index (site_cmp a x) ≤ ordering_index (site_cmp b x)
    go Less e = rw (site_total.trans a b x l e) (omega arith)
    go Equal e = rw (subst (λ (s : SiteStamp). site_cmp a s ≡ Less) (tied_exact b x e) l) (omega arith)
    go Greater e = rw e (at_most (site_cmp a x))

indexes_rise : (known : List SiteStamp) (x : SiteStamp) → IsStrictlySortedBy site_cmp known → IsNonDecreasingBy (λ y. ordering_index (site_cmp y x)) known
indexes_rise known x up i j d le within =
    by_cases (i == j)
    (λ e. let same : i ≡ j = grind (arith, nat_tests) in rw same (omega arith))
    (λ e. let less : i < j = grind (arith, nat_tests) in index_rises (get_or known i d) (get_or known j d) x (Less-from_sorted site_cmp known i j d up less within))

among_index : {A : Type 0} (xs : List A) (x : A) → Among x xs → (k : ℕ) × (k < length xs) × (get_or xs k x ≡ x)
among_index xs x m = let c = among_at xs x m in (c.0, c.1, c.2)

less_equal : (r : Ordering) → r ≡ Less → r ≡ Equal → ⊥
less_equal r l e = let h : Less ≡ Equal = sym l ∙ e in cc

greater_equal : (r : Ordering) → r ≡ Greater → r ≡ Equal → ⊥
greater_equal r l e = let h : Greater ≡ Equal = sym l ∙ e in cc

pub searched_known : (known : List SiteStamp) (x : SiteStamp) (r : Result ℕ ℕ) → IsStrictlySortedBy site_cmp known → IsSearchInRange r (length known) → IsBinarySearchResult (λ y. site_cmp y x) known r → is_ok r ≡ list_any (same_stamp x) known
searched_known known x (Ok k) up within found =
    let at : Among x known = at_among known x k within (tied_exact (get_or known k x) x (found x)) in
    by_cases (list_any (same_stamp x) known) (λ e. sym e) (λ e. absurd (any_among known x e at))
searched_known known x (Err k) up within found =
    by_cases (list_any (same_stamp x) known)
    (λ e.
    let m = among_index known x (among_any known x e) in
    let parts = found (indexes_rise known x up) in
    let tied : site_cmp (get_or known m.0 x) x ≡ Equal = rw m.2 (tied_itself_index x) in
    by_cases (nat_lt m.0 k)
    (λ lt. let early : m.0 < k = grind (arith, nat_tests) in absurd (less_equal _ (parts.0 m.0 x (omega arith) early) tied))
    (λ ge. let late : k ≤ m.0 = grind (arith, nat_tests) in absurd (greater_equal _ (parts.1 m.0 x late m.1) tied)))
    (λ e. sym e)

pub none_rise : IsStrictlySortedBy site_cmp []
unfolding IsStrictlySortedBy
none_rise = tt
