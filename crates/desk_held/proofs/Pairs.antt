-- A list that is looked at pair by pair.
use Rattle.std.proofs.Common.{◌≡◌, ℕ, suc, ◌+◌, ◌-◌, ◌<◌, ◌≤◌, ◌⊎◌, inl, inr, List, [], ◌∷◌, length, get_or, refl, sym, ap, subst, ◌∙◌, arith, true}
use Rattle.std.specs.Prelude.{T}
use Rattle.std.specs.Ordering.{is_lt}
use Rattle.std.specs.declared.cmp.Ordering.TheVariants.{Less}
use Rattle.std.specs.FinMap.Entries.{below_all}
use Rattle.std.proofs.lemmas.Bool.{cases_eq, and_from, and_parts}
use Rattle.std.proofs.lemmas.List.{get_or_default}
use Rattle.desk_ops.specs.declared.op.Op.{Op}
use Rattle.desk_ops.specs.Order.{op_cmp}
use Rattle.desk_ops.specs.OrderLaws.{op_total}
use Rattle.desk_ops.specs.OpSet.{is_rising, entries_of}
use Rattle.desk_ops.proofs.Stamps.{is_less}

below-more : (x y : Op) (ops : List Op) → op_cmp x y ≡ Less → below_all op_cmp y (entries_of ops) ≡ true → below_all op_cmp x (entries_of ops) ≡ true
below-more x y [] l h = refl
below-more x y (z ∷ ops) l h =
    let parts = and_parts (is_lt (op_cmp y z)) (below_all op_cmp y (entries_of ops)) h in
    and_from (is_lt (op_cmp x z)) (below_all op_cmp x (entries_of ops)) (ap is_lt (op_total.trans x y z l (is_less (op_cmp y z) parts.0))) (below-more x y ops l parts.1)

pub rising-from : (ops : List Op) → ((k : ℕ) (d : Op) → k + 1 < length ops → op_cmp (get_or ops k d) (get_or ops (k + 1) d) ≡ Less) → T (is_rising ops)
rising-from ops h = subst T (sym (go ops h)) tt
  where
    go : (os : List Op) → ((k : ℕ) (d : Op) → k + 1 < length os → op_cmp (get_or os k d) (get_or os (k + 1) d) ≡ Less) → is_rising os ≡ true
    go [] g = refl
    go (x ∷ []) g = refl
    go (x ∷ y ∷ os) g =
        let rest : is_rising (y ∷ os) ≡ true = go (y ∷ os) (λ k d l. let e : suc k + 1 ≡ suc (k + 1) = omega arith in ap (λ (n : ℕ). op_cmp (get_or (y ∷ os) k d) (get_or (x ∷ y ∷ os) n d)) (sym e) ∙ g (suc k) d (omega (arith, l))) in
        let l : op_cmp x y ≡ Less = g 0 x (omega arith) in
        and_from (below_all op_cmp x (entries_of (y ∷ os))) (is_rising (y ∷ os)) (and_from (is_lt (op_cmp x y)) (below_all op_cmp x (entries_of os)) (ap is_lt l) (below-more x y os l (and_parts (below_all op_cmp y (entries_of os)) (is_rising os) rest).0)) rest

-- the pair before i, and those before it
pub pairs-more : (ops : List Op) (i : ℕ) (e : Op) → 1 ≤ i → i < length ops → ((k : ℕ) (d : Op) → k + 1 < i → k + 1 < length ops → op_cmp (get_or ops k d) (get_or ops (k + 1) d) ≡ Less) → op_cmp (get_or ops (i - 1) e) (get_or ops i e) ≡ Less → (k : ℕ) (d : Op) → k + 1 < i + 1 → k + 1 < length ops → op_cmp (get_or ops k d) (get_or ops (k + 1) d) ≡ Less
pairs-more ops i e some l h last k d w v = go (cases_eq (k + 1) i)
  where
    go : (k + 1 ≡ i) ⊎ (k + 1 ≡ i → ⊥) → op_cmp (get_or ops k d) (get_or ops (k + 1) d) ≡ Less
    go (inl q) =
        let before_it : k ≡ i - 1 = omega (arith, q, some) in
        ap (λ (o : Op). op_cmp o (get_or ops (k + 1) d)) (get_or_default ops k d e (omega (arith, v)))
        ∙ ap (λ (o : Op). op_cmp (get_or ops k e) o) (get_or_default ops (k + 1) d e v)
        ∙ ap (λ (n : ℕ). op_cmp (get_or ops n e) (get_or ops (k + 1) e)) before_it
        ∙ ap (λ (n : ℕ). op_cmp (get_or ops (i - 1) e) (get_or ops n e)) q
        ∙ last
    go (inr n) = h k d (omega (arith, w, n)) v
