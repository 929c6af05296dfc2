-- Lists by stamp, and where in them a stamp stands or would stand.
use Rattle.std.proofs.Common.{◌≡◌, ℕ, zero, suc, ◌+◌, ◌<◌, ◌≤◌, true, false, ◌||◌, List, [], ◌∷◌, length, get_or, refl, sym, ap, ◌∙◌, subst, arith}
use Rattle.std.specs.Prelude.{nat_lt}
use Rattle.std.specs.List.{AllWithin, list_any}
use Rattle.std.specs.List.Sorted.{IsPartitionedBy}
use Rattle.std.proofs.lemmas.Bool.{true≢false}
use Rattle.std.proofs.lemmas.Bool.Decides.{nat_tests}
use Rattle.desk_ops.specs.declared.op.Stamp.{Stamp}
use Rattle.desk_ops.specs.declared.op.Op.{Op}
use Rattle.desk_ops.specs.Stamp.{before, same}
use Rattle.desk_ops.specs.Op.{stamp_of}
use Rattle.desk_ops.specs.Held.{bears, is_borne}
use Rattle.desk_ops.proofs.Bearers.{stamp_not_before}
use Rattle.desk_ops.proofs.Lists.{each-at}
use Rattle.desk_ops.proofs.Means.{IsOrdered}
use Rattle.desk_ops.proofs.Stamps.{before-apart_left, before-irrefl, before-other, before-squeeze, by_cases, same-true}
use Rattle.desk_ops.specs.Order.{op_cmp}
use Rattle.std.specs.declared.cmp.Ordering.TheVariants.{Less}
use Rattle.desk_replica.specs.Seats.{IsSeat, Rise}

-- what is not before itself
pub not_before : (s : Stamp) → before s s ≡ false
not_before s = by_cases (before s s) (λ e. absurd (before-irrefl s e)) (λ e. e)

-- what a search asks
pub partitioned : {X : Type 0} (borne : X → Stamp) (xs : List X) (s : Stamp) → Rise borne xs → IsPartitionedBy (λ x. before (borne x) s) xs
partitioned borne xs s up i j d le lt e = by_cases (before (borne (get_or xs i d)) s) (λ k. k)
    (λ k. absurd (true≢false (sym (before-squeeze (borne (get_or xs j d)) (borne (get_or xs i d)) s e k) ∙ up i j d le lt)))

-- where one is smaller, all before it are, too
pub early_more : {X : Type 0} (borne : X → Stamp) (xs : List X) (s : Stamp) (place : ℕ) → Rise borne xs → place < length xs → ((d : X) → before (borne (get_or xs place d)) s ≡ true)
    → AllWithin (λ x. before (borne x) s ≡ true) xs 0 (place + 1)
early_more borne xs s place up within here = λ k d low high. partitioned borne xs s up k place d (omega arith) within (here d)

-- where one is not, none behind it is
pub late_more : {X : Type 0} (borne : X → Stamp) (xs : List X) (s : Stamp) (place : ℕ) → Rise borne xs → ((d : X) → before (borne (get_or xs place d)) s ≡ false)
    → AllWithin (λ x. before (borne x) s ≡ false) xs place (length xs)
late_more borne xs s place up here = λ k d low high. by_cases (before (borne (get_or xs k d)) s)
    (λ e. absurd (true≢false (sym (partitioned borne xs s up place k d low high e) ∙ here d)))
    (λ e. e)

-- operations in order are by stamp
pub ops_rise : (ops : List Op) → IsOrdered ops → Rise stamp_of ops
ops_rise [] up i j d le lt = absurd (omega arith)
ops_rise (o ∷ ops) up zero zero d le lt = not_before (stamp_of o)
ops_rise (o ∷ ops) up zero (suc j) d le lt = stamp_not_before o (get_or ops j d) (each-at (λ p. op_cmp o p ≡ Less) ops j d up.0 (omega arith))
ops_rise (o ∷ ops) up (suc i) zero d le lt = absurd (omega arith)
ops_rise (o ∷ ops) up (suc i) (suc j) d le lt = ops_rise ops up.1 i j d (omega arith) (omega arith)

-- where none at its seat bears a stamp, none does
module _ (ops : List Op) (s : Stamp) (place : ℕ) (up : Rise stamp_of ops) (at : IsSeat stamp_of ops s place) (other : place < length ops → (d : Op) → same (stamp_of (get_or ops place d)) s ≡ false) where
  none-at : (k : ℕ) (d : Op) → k < length ops → same (stamp_of (get_or ops k d)) s ≡ false
  none-at k d lt = by_cases (before (stamp_of (get_or ops k d)) s)
      (λ e. before-apart_left (stamp_of (get_or ops k d)) s e)
      (λ e. by_cases (same (stamp_of (get_or ops k d)) s) (λ g. absurd (late e g)) (λ g. g))
    where
      late : before (stamp_of (get_or ops k d)) s ≡ false → same (stamp_of (get_or ops k d)) s ≡ true → ⊥
      late e g = by_cases (nat_lt k place)
          (λ l. true≢false (sym (at.early k d (omega arith) (grind (arith, nat_tests))) ∙ e))
          (λ l. let le : place ≤ k = grind (arith, nat_tests) in
          let within : place < length ops = omega (arith, le, lt) in
          true≢false (sym (before-other (stamp_of (get_or ops place d)) s (at.late place d (omega arith) within) (other within d))
          ∙ subst (λ t. before t (stamp_of (get_or ops place d)) ≡ false) (same-true (stamp_of (get_or ops k d)) s g) (up place k d le lt)))

  bare_by : (os : List Op) → ((k : ℕ) (d : Op) → k < length os → same (stamp_of (get_or os k d)) s ≡ false) → is_borne os s ≡ false
  unfolding is_borne
  bare_by [] none = refl
  bare_by (o ∷ os) none = ap (λ b. b || list_any (bears s) os) (none 0 o (omega arith)) ∙ bare_by os (λ k d lt. none (suc k) d (omega arith))

  pub seat_bare : is_borne ops s ≡ false
  seat_bare = bare_by ops none-at
