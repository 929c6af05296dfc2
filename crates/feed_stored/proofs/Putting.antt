-- A stamp in place of its site's.
use Rattle.std.proofs.Common.{◌≡◌, ℕ, ◌+◌, ◌<◌, ◌≤◌, List, [], ◌∷◌, ◌++◌, refl, sym, ap, ap₂, subst, ◌∙◌, arith, true, false}
use Rattle.std.specs.Prelude.{◌≢◌, ◌==◌, if◌then◌else◌, nat_lt, Option, None, Some}
use Rattle.std.specs.List.{filter}
use Rattle.std.proofs.lemmas.Bool.Decides.{nat_tests}
use Rattle.desk_ops.specs.declared.op.Stamp.{Stamp}
use Rattle.desk_ops.proofs.Stamps.{by_cases}
use Rattle.feed_stored.specs.Text.{IsNumbered, Rises, counter_of, is_above, is_below, with_stamp}

is_it : (m n : ℕ) → m ≡ n → (m == n) ≡ true
is_it m n same = grind (arith, nat_tests)

is_other : (m n : ℕ) → m ≢ n → (m == n) ≡ false
is_other m n other = grind (arith, nat_tests)

less : (m n : ℕ) → m < n → nat_lt m n ≡ true
less m n lt = grind (arith, nat_tests)

not_less : (m n : ℕ) → n ≤ m → nat_lt m n ≡ false
not_less m n le = grind (arith, nat_tests)

-- ---- counters

-- past the stamps of smaller sites
below_none : (m site : ℕ) (xs ys : List Stamp) → m ≤ site → counter_of (filter (is_below m) xs ++ ys) site ≡ counter_of ys site
below_none m site [] ys high = refl
below_none m site (s ∷ xs) ys high =
    by_cases (nat_lt s.site m) (λ k. let lt : s.site < m = grind (arith, nat_tests) in rw (k, is_other s.site site (omega (arith, lt, high))) (below_none m site xs ys high)) (λ k. rw k (below_none m site xs ys high))

above_none : (m site : ℕ) (xs : List Stamp) → site ≤ m → counter_of (filter (is_above m) xs) site ≡ None
above_none m site [] low = refl
above_none m site (s ∷ xs) low =
    by_cases (nat_lt m s.site) (λ k. let lt : m < s.site = grind (arith, nat_tests) in rw (k, is_other s.site site (omega (arith, lt, low))) (above_none m site xs low)) (λ k. rw k (above_none m site xs low))

above_has : (m site : ℕ) (xs : List Stamp) → m < site → counter_of (filter (is_above m) xs) site ≡ counter_of xs site
above_has m site [] high = refl
above_has m site (s ∷ xs) high =
    by_cases (nat_lt m s.site) (λ k. rw k (ap (λ o. if s.site == site then Some s.counter else o) (above_has m site xs high)))
    (λ k. let le : s.site ≤ m = grind (arith, nat_tests) in rw (k, is_other s.site site (omega (arith, le, high))) (above_has m site xs high))

below_has : (m site : ℕ) (xs ys : List Stamp) → site < m → counter_of ys site ≡ None → counter_of (filter (is_below m) xs ++ ys) site ≡ counter_of xs site
below_has m site [] ys low none = none
below_has m site (s ∷ xs) ys low none =
    by_cases (nat_lt s.site m) (λ k. rw k (ap (λ o. if s.site == site then Some s.counter else o) (below_has m site xs ys low none)))
    (λ k. let le : m ≤ s.site = grind (arith, nat_tests) in rw (k, is_other s.site site (omega (arith, le, low))) (below_has m site xs ys low none))

pub with_own : (stamps : List Stamp) (new : Stamp) → counter_of (with_stamp stamps new) new.site ≡ Some new.counter
with_own stamps new =
    below_none new.site new.site stamps (new ∷ filter (is_above new.site) stamps) (omega arith) ∙ ap (λ b. if b then Some new.counter else counter_of (filter (is_above new.site) stamps) new.site) (is_it new.site new.site refl)

pub with_others : (stamps : List Stamp) (new : Stamp) (site : ℕ) → site ≢ new.site → counter_of (with_stamp stamps new) site ≡ counter_of stamps site
with_others stamps new site other =
    let rest = filter (is_above new.site) stamps in
    let past : counter_of (new ∷ rest) site ≡ counter_of rest site = ap (λ b. if b then Some new.counter else counter_of rest site) (is_other new.site site (λ e. other (sym e))) in
    by_cases (nat_lt site new.site) (λ k. let lt : site < new.site = grind (arith, nat_tests) in below_has new.site site stamps (new ∷ rest) lt (past ∙ above_none new.site site stamps (omega (arith, lt))))
    (λ k. let le : new.site ≤ site = grind (arith, nat_tests) in below_none new.site site stamps (new ∷ rest) le ∙ past ∙ above_has new.site site stamps (omega (arith, le, other)))

-- ---- sites that rise

none_below : (low m : ℕ) (xs : List Stamp) → Rises low xs → m ≤ low → filter (is_below m) xs ≡ []
none_below low m [] up le = refl
none_below low m (s ∷ xs) up le = let least = up.1 in rw (not_less s.site m (omega (arith, least, le))) (none_below (s.site + 1) m xs up.2 (omega (arith, least, le)))

all_above : (low m : ℕ) (xs : List Stamp) → Rises low xs → m < low → filter (is_above m) xs ≡ xs
all_above low m [] up lt = refl
all_above low m (s ∷ xs) up lt = let least = up.1 in rw (less m s.site (omega (arith, least, lt))) (ap (λ l. s ∷ l) (all_above (s.site + 1) m xs up.2 (omega (arith, least, lt))))

pub rises_with : (low : ℕ) (xs : List Stamp) (new : Stamp) → Rises low xs → low ≤ new.site → IsNumbered new → Rises low (with_stamp xs new)
rises_with low [] new up le numbered = (numbered, le, tt)
rises_with low (s ∷ xs) new up le numbered =
    by_cases (nat_lt s.site new.site)
    (λ k. let lt : s.site < new.site = grind (arith, nat_tests) in rw (k, not_less new.site s.site (omega (arith, lt))) (up.0, up.1, rises_with (s.site + 1) xs new up.2 (omega (arith, lt)) numbered))
    (λ k.
    let ge : new.site ≤ s.site = grind (arith, nat_tests) in
    let none = none_below (s.site + 1) new.site xs up.2 (omega (arith, ge)) in
    let all = all_above (s.site + 1) new.site xs up.2 (omega (arith, ge)) in
    by_cases (nat_lt new.site s.site) (λ j. let gt : new.site < s.site = grind (arith, nat_tests) in rw (k, j, none, all) (numbered, le, (up.0, omega (arith, gt), up.2)))
    (λ j. let eq : new.site ≡ s.site = grind (arith, nat_tests) in rw (k, j, none, all) (numbered, le, rw eq up.2)))
