-- Operations in their order: their stamps do not fall, and those of one stamp stand side by side.
use Rattle.std.proofs.Common.{◌≡◌, ℕ, zero, suc, ◌+◌, ◌-◌, ◌<◌, ◌≤◌, Bool, true, false, not, nat_eq, List, [], ◌∷◌, length, get_or, take, refl, sym, ap, ◌∙◌, subst, ◌⊎◌, inl, inr, arith}
use Rattle.std.specs.declared.cmp.Ordering.TheVariants.{Less}
use Rattle.std.proofs.lemmas.Bool.{true≢false, cases_order}
use Rattle.std.proofs.lemmas.Bool.Decides.{nat_tests}
use Rattle.std.proofs.lemmas.List.{get_or_default}
use Rattle.desk_ops.specs.declared.op.Stamp.{Stamp}
use Rattle.desk_ops.specs.declared.op.Op.{Op}
use Rattle.desk_ops.specs.Stamp.{same, before}
use Rattle.desk_ops.specs.Op.{stamp_of}
use Rattle.desk_ops.specs.Order.{op_cmp}
use Rattle.desk_ops.specs.OpSet.{OpSet, has_op, in_order}
use Rattle.desk_ops.specs.Lists.{Among}
use Rattle.desk_ops.specs.Held.{is_clear_in}
use Rattle.desk_ops.proofs.Stamps.{by_cases, same-true, same-from, before-trans, before-irrefl, before-other}
use Rattle.desk_ops.proofs.Lists.{each-at}
use Rattle.desk_ops.proofs.Means.{IsOrdered, ordered, clear_one}
use Rattle.desk_ops.proofs.Ends.{among_held, held_among}
use Rattle.desk_ops.proofs.Bearers.{stamp_not_before, sole_clear}
use Rattle.desk_ops.proofs.OpSets.{less-apart}
use Rattle.desk_walk.specs.Tree.{no_op, op_at}

-- ---- by place

pub index-of : {A : Type 0} (xs : List A) (d x : A) → Among x xs → (j : ℕ) × (j < length xs) × (get_or xs j d ≡ x)
index-of [] d x m = absurd m
index-of (y ∷ xs) d x (inl e) = (0, omega arith, e)
index-of (y ∷ xs) d x (inr m) = let r = index-of xs d x m in let l : r.0 < length xs = r.1 in (suc r.0, omega arith, r.2)

pub at-index : {A : Type 0} (xs : List A) (d : A) (j : ℕ) → j < length xs → Among (get_or xs j d) xs
at-index [] d j lt = absurd (omega arith)
at-index (x ∷ xs) d zero lt = inl refl
at-index (x ∷ xs) d (suc j) lt = inr (at-index xs d j (omega arith))

pub taken-index : {A : Type 0} (xs : List A) (d : A) (i j : ℕ) → j < i → j < length xs → Among (get_or xs j d) (take i xs)
taken-index [] d i j l lt = absurd (omega arith)
taken-index (x ∷ xs) d zero j l lt = absurd (omega arith)
taken-index (x ∷ xs) d (suc i) zero l lt = inl refl
taken-index (x ∷ xs) d (suc i) (suc j) l lt = inr (taken-index xs d i j (omega arith) (omega arith))

pub index-taken : {A : Type 0} (xs : List A) (d : A) (i : ℕ) (x : A) → Among x (take i xs) → (j : ℕ) × (j < i) × (j < length xs) × (get_or xs j d ≡ x)
index-taken [] d zero x m = absurd m
index-taken [] d (suc i) x m = absurd m
index-taken (y ∷ xs) d zero x m = absurd m
index-taken (y ∷ xs) d (suc i) x (inl e) = (0, omega arith, omega arith, e)
index-taken (y ∷ xs) d (suc i) x (inr m) = let r = index-taken xs d i x m in let l : r.0 < i = r.1 in let k : r.0 < length xs = r.2 in (suc r.0, omega arith, omega arith, r.3)

-- ---- in order

pub less-at : (ops : List Op) → IsOrdered ops → (j k : ℕ) → j < k → k < length ops → op_cmp (op_at ops j) (op_at ops k) ≡ Less
less-at [] up j k l lt = absurd (omega arith)
less-at (o ∷ ops) up j zero l lt = absurd (omega arith)
less-at (o ∷ ops) up zero (suc k) l lt = each-at (λ p. op_cmp o p ≡ Less) ops k no_op up.0 (omega arith)
less-at (o ∷ ops) up (suc j) (suc k) l lt = less-at ops up.1 j k (omega arith) (omega arith)

-- what is no greater than what is smaller is smaller
pub below-it : (a b s : Stamp) → before b a ≡ false → before b s ≡ true → before a s ≡ true
below-it a b s n l =
    by_cases (same b a)
    (λ e. subst (λ t. before t s ≡ true) (same-true b a e) l)
    (λ e. before-trans a b s (before-other b a n e) l)

pub above-it : (a b s : Stamp) → before b a ≡ false → before s a ≡ true → before s b ≡ true
above-it a b s n l =
    by_cases (same b a)
    (λ e. subst (λ t. before s t ≡ true) (sym (same-true b a e)) l)
    (λ e. before-trans s a b l (before-other b a n e))

module _ (h : OpSet) where
  pub not-before : (j k : ℕ) → j < k → k < length (in_order h) → before (stamp_of (op_at (in_order h) k)) (stamp_of (op_at (in_order h) j)) ≡ false
  not-before j k l lt = stamp_not_before (op_at (in_order h) j) (op_at (in_order h) k) (less-at (in_order h) (ordered h) j k l lt)

  pub held-at : (k : ℕ) → k < length (in_order h) → has_op h (op_at (in_order h) k) ≡ true
  held-at k lt = held_among h (op_at (in_order h) k) (at-index (in_order h) no_op k lt)

  -- each stands at one place
  pub one-index : (j k : ℕ) → j < length (in_order h) → k < length (in_order h) → op_at (in_order h) j ≡ op_at (in_order h) k → j ≡ k
  one-index j k lj lk e = go (cases_order j k)
    where
      go : (j ≡ k) ⊎ ((j < k) ⊎ (k < j)) → j ≡ k
      go (inl i) = i
      go (inr (inl l)) = absurd (less-apart (op_at (in_order h) j) (op_at (in_order h) k) (less-at (in_order h) (ordered h) j k l lk) e)
      go (inr (inr l)) = absurd (less-apart (op_at (in_order h) k) (op_at (in_order h) j) (less-at (in_order h) (ordered h) k j l lj) (sym e))

  -- a clear one is the only one of its stamp
  pub clear-index : (j k : ℕ) → j < length (in_order h) → k < length (in_order h) → is_clear_in h (stamp_of (op_at (in_order h) k)) ≡ true → stamp_of (op_at (in_order h) j) ≡ stamp_of (op_at (in_order h) k) → j ≡ k
  clear-index j k lj lk c e = one-index j k lj lk
      (clear_one (in_order h) (stamp_of (op_at (in_order h) k)) c (op_at (in_order h) j) (op_at (in_order h) k) (at-index (in_order h) no_op j lj) (at-index (in_order h) no_op k lk)
      (same-from (stamp_of (op_at (in_order h) j)) (stamp_of (op_at (in_order h) k)) e) (same-from (stamp_of (op_at (in_order h) k)) (stamp_of (op_at (in_order h) k)) refl))

  -- and those before it are older
  pub older-at : (j k : ℕ) → j < k → k < length (in_order h) → is_clear_in h (stamp_of (op_at (in_order h) k)) ≡ true → before (stamp_of (op_at (in_order h) j)) (stamp_of (op_at (in_order h) k)) ≡ true
  older-at j k l lk c = before-other (stamp_of (op_at (in_order h) k)) (stamp_of (op_at (in_order h) j)) (not-before j k l lk)
      (by_cases (same (stamp_of (op_at (in_order h) k)) (stamp_of (op_at (in_order h) j)))
      (λ e. let i : j ≡ k = clear-index j k (omega arith) lk c (sym (same-true (stamp_of (op_at (in_order h) k)) (stamp_of (op_at (in_order h) j)) e)) in absurd (omega arith))
      (λ e. e))

  -- ---- its neighbours show whether an operation is clear

  pub forked-beside : (j i : ℕ) → (j ≡ i → ⊥) → j < length (in_order h) → i < length (in_order h) → same (stamp_of (op_at (in_order h) j)) (stamp_of (op_at (in_order h) i)) ≡ true → is_clear_in h (stamp_of (op_at (in_order h) i)) ≡ false
  forked-beside j i ne lj li e = by_cases (is_clear_in h (stamp_of (op_at (in_order h) i)))
      (λ c. absurd (ne (clear-index j i lj li c (same-true (stamp_of (op_at (in_order h) j)) (stamp_of (op_at (in_order h) i)) e))))
      (λ c. c)

  pub clear-beside : (i : ℕ) → i < length (in_order h) → (i ≡ 0) ⊎ (same (stamp_of (op_at (in_order h) (i - 1))) (stamp_of (op_at (in_order h) i)) ≡ false)
      → (i + 1 ≡ length (in_order h)) ⊎ (same (stamp_of (op_at (in_order h) (i + 1))) (stamp_of (op_at (in_order h) i)) ≡ false) → is_clear_in h (stamp_of (op_at (in_order h) i)) ≡ true
  clear-beside i li first last = sole_clear h (at i) (op_at (in_order h) i, held-at i li, refl, λ p held e. go p e (index-of (in_order h) no_op p (among_held h p held)))
    where
      at : ℕ → Stamp
      at k = stamp_of (op_at (in_order h) k)

      -- a smaller stamp is not that one
      not-smaller : (a b : Stamp) → before a b ≡ true → a ≡ b → ⊥
      not-smaller a b l e = before-irrefl b (subst (λ t. before t b ≡ true) e l)

      left : (j : ℕ) → j < i → at j ≡ at i → ⊥
      left j l e = which first
        where
          which : (i ≡ 0) ⊎ (same (at (i - 1)) (at i) ≡ false) → ⊥
          which (inl z) = omega arith
          which (inr n) = not-smaller (at j) (at i) (turn (cases_order j (i - 1))) e
            where
              less : before (at (i - 1)) (at i) ≡ true
              less = before-other (at i) (at (i - 1)) (not-before (i - 1) i (omega arith) li)
                  (by_cases (same (at i) (at (i - 1))) (λ k. absurd (true≢false (sym (same-from (at (i - 1)) (at i) (sym (same-true (at i) (at (i - 1)) k))) ∙ n))) (λ k. k))

              turn : (j ≡ i - 1) ⊎ ((j < i - 1) ⊎ (i - 1 < j)) → before (at j) (at i) ≡ true
              turn (inl k) = subst (λ m. before (at m) (at i) ≡ true) (sym k) less
              turn (inr (inl k)) = below-it (at j) (at (i - 1)) (at i) (not-before j (i - 1) k (omega arith)) less
              turn (inr (inr k)) = absurd (omega arith)

      right : (j : ℕ) → i < j → j < length (in_order h) → at j ≡ at i → ⊥
      right j l lj e = which last
        where
          which : (i + 1 ≡ length (in_order h)) ⊎ (same (at (i + 1)) (at i) ≡ false) → ⊥
          which (inl z) = omega arith
          which (inr n) = not-smaller (at i) (at j) (turn (cases_order j (i + 1))) (sym e)
            where
              more : before (at i) (at (i + 1)) ≡ true
              more = before-other (at (i + 1)) (at i) (not-before i (i + 1) (omega arith) (omega arith)) n

              turn : (j ≡ i + 1) ⊎ ((j < i + 1) ⊎ (i + 1 < j)) → before (at i) (at j) ≡ true
              turn (inl k) = subst (λ m. before (at i) (at m) ≡ true) (sym k) more
              turn (inr (inl k)) = absurd (omega arith)
              turn (inr (inr k)) = above-it (at (i + 1)) (at j) (at i) (not-before (i + 1) j k lj) more

      go : (p : Op) → stamp_of p ≡ at i → ((j : ℕ) × (j < length (in_order h)) × (get_or (in_order h) j no_op ≡ p)) → p ≡ op_at (in_order h) i
      go p e r = which (cases_order r.0 i)
        where
          f : at r.0 ≡ at i
          f = ap stamp_of r.2 ∙ e

          which : (r.0 ≡ i) ⊎ ((r.0 < i) ⊎ (i < r.0)) → p ≡ op_at (in_order h) i
          which (inl k) = sym r.2 ∙ ap (op_at (in_order h)) k
          which (inr (inl k)) = absurd (left r.0 k f)
          which (inr (inr k)) = absurd (right r.0 k r.1 f)

-- what is read at a place
pub stamp-read : (h : OpSet) (ops : List Op) (k : ℕ) (d : Op) → ops ≡ in_order h → k < length (in_order h) → stamp_of (get_or ops k d) ≡ stamp_of (op_at (in_order h) k)
stamp-read h ops k d e lt = ap (λ (os : List Op). stamp_of (get_or os k d)) e ∙ ap stamp_of (get_or_default (in_order h) k d no_op lt)

-- ---- a search

pub still-below : (h : OpSet) (p : ℕ) → p < length (in_order h) → (s : Stamp) → before (stamp_of (op_at (in_order h) p)) s ≡ true → (k : ℕ) → k < p + 1 → before (stamp_of (op_at (in_order h) k)) s ≡ true
still-below h p lt s l k less = go (cases_order k p)
  where
    go : (k ≡ p) ⊎ ((k < p) ⊎ (p < k)) → before (stamp_of (op_at (in_order h) k)) s ≡ true
    go (inl e) = subst (λ m. before (stamp_of (op_at (in_order h) m)) s ≡ true) (sym e) l
    go (inr (inl m)) = below-it (stamp_of (op_at (in_order h) k)) (stamp_of (op_at (in_order h) p)) s (not-before h k p m lt) l
    go (inr (inr m)) = absurd (omega arith)

pub still-above : (h : OpSet) (p : ℕ) (s : Stamp) → before (stamp_of (op_at (in_order h) p)) s ≡ false → same (stamp_of (op_at (in_order h) p)) s ≡ false → (k : ℕ) → p ≤ k → k < length (in_order h) → before s (stamp_of (op_at (in_order h) k)) ≡ true
still-above h p s n other k le lt = go (cases_order k p)
  where
    here : before s (stamp_of (op_at (in_order h) p)) ≡ true
    here = before-other (stamp_of (op_at (in_order h) p)) s n other

    go : (k ≡ p) ⊎ ((k < p) ⊎ (p < k)) → before s (stamp_of (op_at (in_order h) k)) ≡ true
    go (inl e) = subst (λ m. before s (stamp_of (op_at (in_order h) m)) ≡ true) (sym e) here
    go (inr (inl m)) = absurd (omega arith)
    go (inr (inr m)) = above-it (stamp_of (op_at (in_order h) p)) (stamp_of (op_at (in_order h) k)) s (not-before h p k m lt) here

-- all before the end are below or above
pub not-found : (h : OpSet) (s : Stamp) (low high end : ℕ) → high ≤ low → ((k : ℕ) → k < low → before (stamp_of (op_at (in_order h) k)) s ≡ true) → ((k : ℕ) → high ≤ k → k < end → before s (stamp_of (op_at (in_order h) k)) ≡ true)
    → (k : ℕ) → k < end → stamp_of (op_at (in_order h) k) ≡ s → ⊥
not-found h s low high end le below above k lt e = go (cases_order k low)
  where
    below-none : before (stamp_of (op_at (in_order h) k)) s ≡ true → ⊥
    below-none l = before-irrefl s (subst (λ t. before t s ≡ true) e l)

    above-none : before s (stamp_of (op_at (in_order h) k)) ≡ true → ⊥
    above-none l = before-irrefl s (subst (λ t. before s t ≡ true) e l)

    go : (k ≡ low) ⊎ ((k < low) ⊎ (low < k)) → ⊥
    go (inl i) = above-none (above k (omega arith) lt)
    go (inr (inl l)) = below-none (below k l)
    go (inr (inr l)) = above-none (above k (omega arith) lt)

-- the last test of the neighbours
pub clear-last : (h : OpSet) (i : ℕ) → i + 1 < length (in_order h) → (i ≡ 0) ⊎ (same (stamp_of (op_at (in_order h) (i - 1))) (stamp_of (op_at (in_order h) i)) ≡ false)
    → (b : Bool) → b ≡ same (stamp_of (op_at (in_order h) (i + 1))) (stamp_of (op_at (in_order h) i)) → not b ≡ is_clear_in h (stamp_of (op_at (in_order h) i))
clear-last h i lt first true e = sym (forked-beside h (i + 1) i (λ k. omega arith) lt (omega arith) (sym e))
clear-last h i lt first false e = sym (clear-beside h i (omega arith) first (inr (sym e)))

pub clear-end : (h : OpSet) (i : ℕ) → i < length (in_order h) → (i ≡ 0) ⊎ (same (stamp_of (op_at (in_order h) (i - 1))) (stamp_of (op_at (in_order h) i)) ≡ false)
    → i + 1 ≡ length (in_order h) → nat_eq (i + 1) (length (in_order h)) ≡ is_clear_in h (stamp_of (op_at (in_order h) i))
clear-end h i lt first e = equal (i + 1) (length (in_order h)) e ∙ sym (clear-beside h i lt first (inl e))
  where
    equal : (a b : ℕ) → a ≡ b → nat_eq a b ≡ true
    equal a b f = grind (arith, nat_tests)

pub op-read : (h : OpSet) (ops : List Op) (k : ℕ) (d : Op) → ops ≡ in_order h → k < length (in_order h) → get_or ops k d ≡ op_at (in_order h) k
op-read h ops k d e lt = ap (λ (os : List Op). get_or os k d) e ∙ get_or_default (in_order h) k d no_op lt
