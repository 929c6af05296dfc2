-- Lists by stamp, and what in them bears a stamp.
use Rattle.std.proofs.Common.{◌≡◌, ℕ, zero, suc, ◌+◌, ◌-◌, ◌<◌, ◌≤◌, Bool, true, false, ◌||◌, List, [], ◌∷◌, ◌++◌, append_assoc, length, get_or, take, drop, refl, sym, ap, ◌∙◌, subst, arith}
use Rattle.std.specs.Prelude.{◌==◌, None, Some, is_some}
use Rattle.std.specs.List.{AllWithin, filter, list_any}
use Rattle.std.specs.List.Sorted.{IsPartitionedBy}
use Rattle.std.proofs.lemmas.Bool.{true≢false}
use Rattle.std.proofs.lemmas.Bool.Decides.{nat_tests}
use Rattle.std.proofs.lemmas.List.{append-nil}
use Rattle.desk_ops.specs.declared.op.Stamp.{Stamp}
use Rattle.desk_ops.specs.declared.op.Op.{Op}
use Rattle.desk_ops.specs.Stamp.{before, same}
use Rattle.desk_ops.specs.Op.{stamp_of}
use Rattle.desk_ops.proofs.Bearers.{stamp_not_before}
use Rattle.desk_ops.proofs.Lists.{each-at}
use Rattle.desk_ops.proofs.Means.{IsOrdered}
use Rattle.desk_ops.proofs.Stamps.{before-apart_left, before-asym, before-irrefl, before-other, before-squeeze, by_cases, same-true}
use Rattle.desk_ops.proofs.Tree.{filter-hit, filter-miss}
use Rattle.desk_ops.specs.Order.{op_cmp}
use Rattle.std.specs.declared.cmp.Ordering.TheVariants.{Less}
use Rattle.desk_ops.specs.Faults.{IsByStamp}
use Rattle.desk_ops.specs.declared.fault.CopyFault.{CopyFault}
use Rattle.feed_history.specs.declared.corrections.Correction.{Correction}
use Rattle.desk_replica.proofs.ByStamp.{not_before}
use Rattle.desk_replica.specs.Seats.{IsSeat, Rise, fault_stamp}
use Rattle.feed_history.specs.Rows.{at, bearing_by, first, row_from, row_of}

-- what comes behind a greater stamp bears none that is smaller
behind : (s t u : Stamp) → before s t ≡ true → before u t ≡ false → same u s ≡ false
behind s t u less late = by_cases (same u s) (λ e. absurd (true≢false (sym less ∙ subst (λ v. before v t ≡ false) (same-true u s e) late))) (λ e. e)

none : {X : Type 0} (borne : X → Stamp) (s : Stamp) (xs : List X) → ((k : ℕ) (d : X) → k < length xs → same (borne (get_or xs k d)) s ≡ false) → bearing_by borne xs s ≡ []
none borne s [] h = refl
none borne s (x ∷ xs) h = filter-miss (λ y. same (borne y) s) x xs (h 0 x (omega arith)) ∙ none borne s xs (λ k d lt. h (suc k) d (omega arith))

-- so many, from the first on that does not bear a smaller stamp, up to the first that does not bear the stamp
pub found : {X : Type 0} (borne : X → Stamp) (s : Stamp) (xs : List X) (from count until : ℕ) → until ≡ from + count → Rise borne xs → until ≤ length xs
    → AllWithin (λ x. before (borne x) s ≡ true) xs 0 from → AllWithin (λ x. before (borne x) s ≡ false) xs from (length xs) → AllWithin (λ x. same (borne x) s ≡ true) xs from until
    → (until < length xs → (d : X) → same (borne (get_or xs until d)) s ≡ false)
    → take count (drop from xs) ≡ bearing_by borne xs s
found borne s [] zero zero until is up within early late bear ends = refl
found borne s [] zero (suc n) until is up within early late bear ends = absurd (omega arith)
found borne s [] (suc f) count until is up within early late bear ends = absurd (omega arith)
found borne s (x ∷ xs) zero zero until is up within early late bear ends =
    let ne : same (borne x) s ≡ false = subst (λ k. same (borne (get_or (x ∷ xs) k x)) s ≡ false) is (ends (omega arith) x) in
    sym (none borne s (x ∷ xs) (λ k d lt. behind s (borne x) (borne (get_or (x ∷ xs) k d)) (before-other (borne x) s (late 0 x (omega arith) (omega arith)) ne) (up 0 k d (omega arith) lt)))
found borne s (x ∷ xs) zero (suc n) until is up within early late bear ends =
    ap (λ l. x ∷ l) (found borne s xs 0 n n (omega arith) (λ i j d p q. up (suc i) (suc j) d (omega arith) (omega arith)) (omega arith) (λ k d p q. absurd (omega arith))
    (λ k d p q. late (suc k) d (omega arith) (omega arith)) (λ k d p q. bear (suc k) d (omega arith) (omega arith))
    (λ lt d. let next : until ≡ suc n = omega arith in subst (λ k. same (borne (get_or (x ∷ xs) k d)) s ≡ false) next (ends (omega arith) d)))
    ∙ sym (filter-hit (λ y. same (borne y) s) x xs (bear 0 x (omega arith) (omega arith)))
found borne s (x ∷ xs) (suc f) count until is up within early late bear ends =
    found borne s xs f count (f + count) refl (λ i j d p q. up (suc i) (suc j) d (omega arith) (omega arith)) (omega arith) (λ k d p q. early (suc k) d (omega arith) (omega arith))
    (λ k d p q. late (suc k) d (omega arith) (omega arith)) (λ k d p q. bear (suc k) d (omega arith) (omega arith))
    (λ lt d. let next : until ≡ suc (f + count) = omega arith in subst (λ k. same (borne (get_or (x ∷ xs) k d)) s ≡ false) next (ends (omega arith) d))
    ∙ sym (filter-miss (λ y. same (borne y) s) x xs (before-apart_left (borne x) s (early 0 x (omega arith) (omega arith))))

-- the first of those that bear a stamp stands at its seat
pub first_found : {X : Type 0} (borne : X → Stamp) (s : Stamp) (xs : List X) (from : ℕ) (d : X) → AllWithin (λ x. before (borne x) s ≡ true) xs 0 from → from < length xs → same (borne (get_or xs from d)) s ≡ true
    → Some (get_or xs from d) ≡ first (bearing_by borne xs s)
first_found borne s [] from d early lt e = absurd (omega arith)
first_found borne s (x ∷ xs) zero d early lt e = ap first (sym (filter-hit (λ y. same (borne y) s) x xs e))
first_found borne s (x ∷ xs) (suc f) d early lt e =
    first_found borne s xs f d (λ k d p q. early (suc k) d (omega arith) (omega arith)) (omega arith) e
    ∙ ap first (sym (filter-miss (λ y. same (borne y) s) x xs (before-apart_left (borne x) s (early 0 x (omega arith) (omega arith)))))

-- where another stands there, or none, there is none
pub none_found : {X : Type 0} (borne : X → Stamp) (s : Stamp) (xs : List X) (from : ℕ) → Rise borne xs → IsSeat borne xs s from → (from < length xs → (d : X) → same (borne (get_or xs from d)) s ≡ false)
    → None ≡ first (bearing_by borne xs s)
none_found borne s xs from up at other = ap first (found borne s xs from 0 from (omega arith) up at.within at.early at.late (λ k d p q. absurd (omega arith)) other)

-- ---- rows

-- what bears one counter more
pub next_row : {X : Type 0} (borne : X → Stamp) (xs row longer whole : List X) (site counter last : ℕ) → counter < last + 1 → longer ≡ row ++ bearing_by borne xs (at site counter)
    → row ++ row_from borne xs site counter (last + 1 - counter) ≡ whole → longer ++ row_from borne xs site (counter + 1) (last + 1 - (counter + 1)) ≡ whole
next_row borne xs row longer whole site counter last lt is so_far =
    let e : last + 1 - counter ≡ suc (last + 1 - (counter + 1)) = omega arith in
    ap (λ l. l ++ row_from borne xs site (counter + 1) (last + 1 - (counter + 1))) is
    ∙ append_assoc row (bearing_by borne xs (at site counter)) (row_from borne xs site (counter + 1) (last + 1 - (counter + 1)))
    ∙ ap (λ n. row ++ row_from borne xs site counter n) (sym e) ∙ so_far

-- of an empty list there is none
row_none : {X : Type 0} (borne : X → Stamp) (site counter n : ℕ) → row_from borne [] site counter n ≡ []
row_none borne site counter zero = refl
row_none borne site counter (suc n) = row_none borne site (counter + 1) n

pub row_of_none : {X : Type 0} (borne : X → Stamp) (xs row : List X) (c : Correction) (b : Bool) → b ≡ true → b ≡ (length xs == 0) → row ≡ row ++ row_of borne xs c
row_of_none borne [] row c b is e = sym (append-nil row) ∙ ap (λ l. row ++ l) (sym (row_none borne c.site c.first (c.last + 1 - c.first)))
row_of_none borne (x ∷ xs) row c b is e =
    let none : length (x ∷ xs) ≡ 0 = grind (arith, nat_tests) in
    absurd (omega (arith, none))

-- ---- copy faults

-- they are by stamp
pub faults_rise : (faults : List CopyFault) → IsByStamp faults → Rise fault_stamp faults
faults_rise [] up i j d le lt = absurd (omega arith)
faults_rise (f ∷ faults) up zero zero d le lt = not_before f.stamp
faults_rise (f ∷ faults) up zero (suc j) d le lt = before-asym f.stamp (get_or faults j d).stamp (each-at (λ g. before f.stamp g.stamp ≡ true) faults j d up.0 (omega arith))
faults_rise (f ∷ faults) up (suc i) zero d le lt = absurd (omega arith)
faults_rise (f ∷ faults) up (suc i) (suc j) d le lt = faults_rise faults up.1 i j d (omega arith) (omega arith)

-- some bear a stamp where there is a first that does
pub some_first : {X : Type 0} (p : X → Bool) (xs : List X) → is_some (first (filter p xs)) ≡ list_any p xs
some_first p [] = refl
some_first p (x ∷ xs) = by_cases (p x)
    (λ e. ap (λ l. is_some (first l)) (filter-hit p x xs e) ∙ sym (ap (λ b. b || list_any p xs) e))
    (λ e. ap (λ l. is_some (first l)) (filter-miss p x xs e) ∙ some_first p xs ∙ sym (ap (λ b. b || list_any p xs) e))
