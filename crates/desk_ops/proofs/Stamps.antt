-- The order of stamps.
use Rattle.std.proofs.Common.{not, ◌<◌, ◌⊎◌, inl, inr, ◌≡◌, Bool, true, false, ◌&&◌, ◌==◌, Some, refl, sym, ap, ◌∙◌, arith}
use Rattle.std.specs.Ordering.{nat_cmp, ordering_then, partial_ordering_then, is_eq, is_lt, is_gt, is_le, is_ge, is_some_and, ordering_reverse}
use Rattle.std.specs.Cmp.{IsTotalOrder, unsigned_tied}
use Rattle.std.proofs.lemmas.Cmp.{then_total, on_total, nat_cmp_total, tied_itself}
use Rattle.std.proofs.lemmas.Bool.Decides.{nat_tests}
use Rattle.std.proofs.lemmas.Bool.{true≢false}
use Rattle.std.specs.FinMap.{nat_cmp-IsAntisymmetric}
use Rattle.std.specs.declared.cmp.Ordering.{Ordering}
use Rattle.std.specs.declared.cmp.Ordering.TheVariants.{Less, Equal, Greater}
use Rattle.desk_ops.specs.declared.op.Stamp.{Stamp}
use Rattle.desk_ops.specs.Stamp.{stamp_cmp, same, before}
use Rattle.desk_ops.specs.OrderLaws.{then_tie}

pub by_cases : {G : Type 0} (b : Bool) → (b ≡ true → G) → (b ≡ false → G) → G
by_cases true t f = t refl
by_cases false t f = f refl

pub stamp_total : IsTotalOrder stamp_cmp
unfolding stamp_cmp
stamp_total = then_total (on_total (λ (s : Stamp). s.counter) nat_cmp_total) (on_total (λ (s : Stamp). s.site) nat_cmp_total)

pub stamp_tied : (a b : Stamp) → stamp_cmp a b ≡ Equal → a ≡ b
unfolding stamp_cmp
stamp_tied a b e = grind (arith, nat_tests)

-- the same is what neither order sets apart
pub same-cmp : (a b : Stamp) → is_eq (stamp_cmp a b) ≡ same a b
unfolding same stamp_cmp
same-cmp a b = then_tie (nat_cmp a.counter b.counter) (nat_cmp a.site b.site) ∙ ap (λ t. t && is_eq (nat_cmp a.site b.site)) (unsigned_tied a.counter b.counter) ∙ ap (λ t. (a.counter == b.counter) && t) (unsigned_tied a.site b.site)

pub is_equal : (r : Ordering) → is_eq r ≡ true → r ≡ Equal
is_equal Less e = absurd (true≢false (sym e))
is_equal Equal e = refl
is_equal Greater e = absurd (true≢false (sym e))

pub is_less : (r : Ordering) → is_lt r ≡ true → r ≡ Less
is_less Less e = refl
is_less Equal e = absurd (true≢false (sym e))
is_less Greater e = absurd (true≢false (sym e))

pub same-true : (a b : Stamp) → same a b ≡ true → a ≡ b
same-true a b e = stamp_tied a b (is_equal (stamp_cmp a b) (same-cmp a b ∙ e))

pub same-refl : (a : Stamp) → same a a ≡ true
same-refl a = sym (same-cmp a a) ∙ ap is_eq (tied_itself stamp_total a)

pub same-from : (a b : Stamp) → a ≡ b → same a b ≡ true
same-from a b e = rw e (same-refl b)

pub same-symm : (a b : Stamp) → same a b ≡ same b a
same-symm a b = by_cases (same a b)
    (λ e. e ∙ sym (same-from b a (sym (same-true a b e))))
    (λ e. e ∙ sym (by_cases (same b a) (λ f. absurd (true≢false (sym (same-from a b (sym (same-true b a f))) ∙ e))) (λ f. f)))

pub before-trans : (a b c : Stamp) → before a b ≡ true → before b c ≡ true → before a c ≡ true
unfolding before
before-trans a b c p q = ap is_lt (stamp_total.trans a b c (is_less _ p) (is_less _ q))

pub before-irrefl : (a : Stamp) → before a a ≡ true → ⊥
unfolding before
before-irrefl a p = true≢false (sym p ∙ ap is_lt (tied_itself stamp_total a))

-- what is not before, and not the same, is after
pub before-other : (a b : Stamp) → before a b ≡ false → same a b ≡ false → before b a ≡ true
unfolding before
before-other a b p q = rw (stamp_total.antisymm b a) (go (stamp_cmp a b) p (same-cmp a b ∙ q))
  where
    go : (r : Ordering) → is_lt r ≡ false → is_eq r ≡ false → is_lt (ordering_reverse r) ≡ true
    go Less p q = absurd (true≢false p)
    go Equal p q = absurd (true≢false q)
    go Greater p q = refl

-- what is before the one and not after the other, which are in that order
pub before-squeeze : (a b c : Stamp) → before a c ≡ true → before b c ≡ false → before a b ≡ true
before-squeeze a b c early late =
    by_cases (same b c)
    (λ e. ap (before a) (same-true b c e) ∙ early)
    (λ e. before-trans a c b early (before-other b c late e))

pub before-apart : (a b : Stamp) → before a b ≡ true → same b a ≡ false
before-apart a b p = by_cases (same b a) (λ e. absurd (before-irrefl a (rw (same-true b a e) at p))) (λ e. e)

pub before-apart_left : (a b : Stamp) → before a b ≡ true → same a b ≡ false
before-apart_left a b p = by_cases (same a b) (λ e. absurd (before-irrefl b (rw (same-true a b e) at p))) (λ e. e)

pub before-asym : (a b : Stamp) → before a b ≡ true → before b a ≡ false
before-asym a b p = by_cases (before b a) (λ e. absurd (before-irrefl a (before-trans a b a p e))) (λ e. e)

-- by counter, and then by site
pub before_from : (a b : Stamp) → before a b ≡ true → (a.counter < b.counter) ⊎ ((a.counter ≡ b.counter) × (a.site < b.site))
unfolding before stamp_cmp
before_from a b e = go (nat_cmp a.counter b.counter) refl e
  where
    go : (r : Ordering) → nat_cmp a.counter b.counter ≡ r → is_lt (ordering_then r (nat_cmp a.site b.site)) ≡ true → (a.counter < b.counter) ⊎ ((a.counter ≡ b.counter) × (a.site < b.site))
    go Less k e = inl (grind (arith, nat_tests))
    go Equal k e = let m : nat_cmp a.site b.site ≡ Less = is_less (nat_cmp a.site b.site) e in inr (nat_cmp-IsAntisymmetric a.counter b.counter k, grind (arith, nat_tests))
    go Greater k e = absurd (true≢false (sym e))

pub before_true : (a b : Stamp) → (a.counter < b.counter) ⊎ ((a.counter ≡ b.counter) × (a.site < b.site)) → before a b ≡ true
unfolding before stamp_cmp
before_true a b (inl h) = grind (arith, nat_tests)
before_true a b (inr h) = let e : a.counter ≡ b.counter = h.0 in let l : a.site < b.site = h.1 in grind (arith, nat_tests)

-- ---- what Rust's operators on stamps say

-- a == b
pub same-fields : (a b : Stamp) → same a b ≡ (a.counter == b.counter && a.site == b.site)
unfolding same
same-fields a b = refl

-- a < b
pub before-fields : (a b : Stamp) → is_some_and is_lt (partial_ordering_then (Some (nat_cmp a.counter b.counter)) (Some (nat_cmp a.site b.site))) ≡ before a b
unfolding before stamp_cmp
before-fields a b = after (nat_cmp a.counter b.counter) (nat_cmp a.site b.site)
  where
    after : (r t : Ordering) → is_some_and is_lt (partial_ordering_then (Some r) (Some t)) ≡ is_lt (ordering_then r t)
    after Less t = refl
    after Equal Less = refl
    after Equal Equal = refl
    after Equal Greater = refl
    after Greater t = refl

-- the other way round
before-back : (a b : Stamp) → before b a ≡ is_gt (stamp_cmp a b)
unfolding before
before-back a b = ap is_lt (stamp_total.antisymm b a) ∙ go (stamp_cmp a b)
  where
    go : (r : Ordering) → is_lt (ordering_reverse r) ≡ is_gt r
    go Less = refl
    go Equal = refl
    go Greater = refl

-- a > b
pub after-fields : (a b : Stamp) → is_some_and is_gt (partial_ordering_then (Some (nat_cmp a.counter b.counter)) (Some (nat_cmp a.site b.site))) ≡ before b a
unfolding stamp_cmp
after-fields a b = after (nat_cmp a.counter b.counter) (nat_cmp a.site b.site) ∙ sym (before-back a b)
  where
    after : (r t : Ordering) → is_some_and is_gt (partial_ordering_then (Some r) (Some t)) ≡ is_gt (ordering_then r t)
    after Less t = refl
    after Equal Less = refl
    after Equal Equal = refl
    after Equal Greater = refl
    after Greater t = refl

-- a <= b
pub up_to-fields : (a b : Stamp) → is_some_and is_le (partial_ordering_then (Some (nat_cmp a.counter b.counter)) (Some (nat_cmp a.site b.site))) ≡ not (before b a)
unfolding stamp_cmp
up_to-fields a b = upto (nat_cmp a.counter b.counter) (nat_cmp a.site b.site) ∙ ap not (sym (before-back a b))
  where
    upto : (r t : Ordering) → is_some_and is_le (partial_ordering_then (Some r) (Some t)) ≡ not (is_gt (ordering_then r t))
    upto Less t = refl
    upto Equal Less = refl
    upto Equal Equal = refl
    upto Equal Greater = refl
    upto Greater t = refl

-- a >= b
pub from-fields : (a b : Stamp) → is_some_and is_ge (partial_ordering_then (Some (nat_cmp a.counter b.counter)) (Some (nat_cmp a.site b.site))) ≡ not (before a b)
unfolding before stamp_cmp
from-fields a b = from (nat_cmp a.counter b.counter) (nat_cmp a.site b.site)
  where
    from : (r t : Ordering) → is_some_and is_ge (partial_ordering_then (Some r) (Some t)) ≡ not (is_lt (ordering_then r t))
    from Less t = refl
    from Equal Less = refl
    from Equal Equal = refl
    from Equal Greater = refl
    from Greater t = refl

pub ruleset stamps = (same-fields, before-fields, after-fields, up_to-fields, from-fields)
