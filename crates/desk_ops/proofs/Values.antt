-- The live set of a key with the greatest stamp.
use Rattle.std.proofs.Common.{◌≡◌, ℕ, ◌==◌, true, false, cond, List, [], ◌∷◌, refl, sym, ap, ◌∙◌, subst, ◌⊎◌, inl, inr, Option, Some, None, arith}
use Rattle.std.specs.List.{filter, filter_map, cons_option}
use Rattle.std.specs.Option.{unwrap_or}
use Rattle.std.proofs.lemmas.Bool.Decides.{nat_tests}
use Rattle.desk_ops.specs.declared.op.Stamp.{Stamp}
use Rattle.desk_ops.specs.declared.op.Key.{Key}
use Rattle.desk_ops.specs.declared.op.Op.{Op}
use Rattle.desk_ops.specs.declared.op.Op.TheVariants.{Insert, Delete, Set}
use Rattle.desk_ops.specs.Stamp.{before}
use Rattle.desk_ops.specs.Op.{stamp_of}
use Rattle.desk_ops.specs.Order.{op_cmp, key_code}
use Rattle.desk_ops.specs.OrderLaws.{key_code_exact}
use Rattle.desk_ops.specs.OpSet.{OpSet, in_order}
use Rattle.desk_ops.specs.Lists.{Among}
use Rattle.desk_ops.specs.Held.{is_clear, clear_ops}
use Rattle.desk_ops.specs.Live.{IsClearOp, IsLiveOp}
use Rattle.desk_ops.specs.Settings.{value_for, last, setting, setting_of, IsSetting}
use Rattle.std.specs.declared.cmp.Ordering.TheVariants.{Less}
use Rattle.desk_ops.proofs.Stamps.{by_cases}
use Rattle.desk_ops.proofs.Lists.{Each, each-among, each-from_among, among-filter, among-filter_map_from}
use Rattle.desk_ops.proofs.Means.{IsOrdered, ordered, clear_apart, before-less}
use Rattle.desk_ops.proofs.Ends.{clear_from_op, op_from_clear}
use Rattle.desk_ops.proofs.Faulty.{none-some}

-- each stamp is greater than those before it
abbrev pub IsByStamp : List Op → Type 0
IsByStamp [] = Unit {0}
IsByStamp (o ∷ os) = Each (λ p. before (stamp_of o) (stamp_of p) ≡ true) os × IsByStamp os

by_stamp_clear : (all ops : List Op) → ((o : Op) → Among o ops → Among o all) → IsOrdered ops → IsByStamp (filter (λ o. is_clear all (stamp_of o)) ops)
by_stamp_clear all [] sub up = tt
by_stamp_clear all (o ∷ os) sub up =
    elim (is_clear all (stamp_of o)) as (λ b. is_clear all (stamp_of o) ≡ b → IsByStamp (cond b (o ∷ filter (λ o. is_clear all (stamp_of o)) os) (filter (λ o. is_clear all (stamp_of o)) os))) [
      | true ↦ λ c. (each-from_among (λ p. before (stamp_of o) (stamp_of p) ≡ true) (filter (λ o. is_clear all (stamp_of o)) os) (λ p m. later c p (among-filter (λ o. is_clear all (stamp_of o)) os p m).0), by_stamp_clear all os (λ p m. sub p (inr m)) up.1)
      | false ↦ λ c. by_stamp_clear all os (λ p m. sub p (inr m)) up.1
    ] refl
  where
    later : is_clear all (stamp_of o) ≡ true → (p : Op) → Among p os → before (stamp_of o) (stamp_of p) ≡ true
    later c p m = before-less (stamp_of o) (stamp_of p) (clear_apart all o p c (sub o (inl refl)) (sub p (inr m)) (each-among (λ p. op_cmp o p ≡ Less) os p up.0 m))

pub clear_by_stamp : (h : OpSet) → IsByStamp (clear_ops (in_order h))
unfolding clear_ops
clear_by_stamp h = by_stamp_clear (in_order h) (in_order h) (λ o m. m) (ordered h)

-- ---- the last that has a value

-- o has the value v, and whatever else has one is older
abbrev IsLast : (Op → Option ℕ) → List Op → ℕ → Op → Type 0
IsLast f os v o = Among o os × (f o ≡ Some v) × ((p : Op) → Among p os → (n : ℕ) → f p ≡ Some n → (p ≡ o) ⊎ (before (stamp_of p) (stamp_of o) ≡ true))

last_some : (f : Op → Option ℕ) (os : List Op) → IsByStamp os → (v : ℕ) → last (filter_map f os) ≡ Some v → (o : Op) × IsLast f os v o
last_some f [] up v e = none-some v e
last_some f (o ∷ os) up v e = go (f o) refl (filter_map f os) refl e (last_some f os up.1 v)
  where
    inner : (r : Option ℕ) → f o ≡ r → ((q : Op) × IsLast f os v q) → ((n : ℕ) (q : Op) → Among q os → r ≡ Some n → before (stamp_of o) (stamp_of q) ≡ true) → (q : Op) × IsLast f (o ∷ os) v q
    inner r is q first = (q.0, (inr q.1.0, q.1.1, all))
      where
        all : (p : Op) → Among p (o ∷ os) → (n : ℕ) → f p ≡ Some n → (p ≡ q.0) ⊎ (before (stamp_of p) (stamp_of q.0) ≡ true)
        all p (inl i) n k = inr (subst (λ p. before (stamp_of p) (stamp_of q.0) ≡ true) i (first n q.0 q.1.0 (sym is ∙ ap f i ∙ k)))
        all p (inr m) n k = q.1.2 p m n k

    go : (r : Option ℕ) → f o ≡ r → (l : List ℕ) → filter_map f os ≡ l → last (cons_option r l) ≡ Some v → (last (filter_map f os) ≡ Some v → (q : Op) × IsLast f os v q) → (q : Op) × IsLast f (o ∷ os) v q
    go None is l il e rest = inner None is (rest (ap last il ∙ e)) (λ n q m k. none-some n k)
    go (Some a) is [] il e rest = (o, (inl refl, is ∙ e, only))
      where
        only : (p : Op) → Among p (o ∷ os) → (n : ℕ) → f p ≡ Some n → (p ≡ o) ⊎ (before (stamp_of p) (stamp_of o) ≡ true)
        only p (inl i) n k = inl (sym i)
        only p (inr m) n k = absurd (subst (Among n) il (among-filter_map_from f os p n m k))
    go (Some a) is (b ∷ l) il e rest = inner (Some a) is (rest (ap last il ∙ e)) (λ n q m k. each-among (λ p. before (stamp_of o) (stamp_of p) ≡ true) os q up.0 m)

last_none : (l : List ℕ) → last l ≡ None → (n : ℕ) → Among n l → ⊥
last_none [] e n m = m
last_none (a ∷ []) e n m = none-some a (sym e)
last_none (a ∷ b ∷ l) e n (inl i) = last_none (b ∷ l) e b (inl refl)
last_none (a ∷ b ∷ l) e n (inr m) = last_none (b ∷ l) e n m

-- ---- the value of a set

set_of : (key : Key) (o : Op) (n : ℕ) → value_for key o ≡ Some n → o ≡ Set (stamp_of o) key n
set_of key (Insert s p y) n e = none-some n e
set_of key (Delete s t) n e = none-some n e
set_of key (Set s k v) n e =
    by_cases (key_code k == key_code key)
    (λ t. let a : k ≡ key = key_code_exact k key (grind (arith, nat_tests)) in
    let b : v ≡ n = ap (λ r. unwrap_or r n) (subst (λ c. elim c [ true ↦ Some v | false ↦ None ] ≡ Some n) t e) in λ i. Set s (a i) (b i))
    (λ t. none-some n (subst (λ c. elim c [ true ↦ Some v | false ↦ None ] ≡ Some n) t e))

pub value_of : (key : Key) (s : Stamp) (n : ℕ) → value_for key (Set s key n) ≡ Some n
value_of key s n = subst (λ c. elim c [ true ↦ Some n | false ↦ None ] ≡ Some n) (sym here) refl
  where
    here : (key_code key == key_code key) ≡ true
    here = grind (arith, nat_tests)

pub is_setting : (h : OpSet) (key : Key) → IsSetting h key (setting_of h key)
unfolding setting
is_setting h key = go (last (filter_map (value_for key) (clear_ops (in_order h)))) refl
  where
    go : (r : Option ℕ) → last (filter_map (value_for key) (clear_ops (in_order h))) ≡ r → IsSetting h key r
    go None e = λ s n l. last_none (filter_map (value_for key) (clear_ops (in_order h))) e n (among-filter_map_from (value_for key) (clear_ops (in_order h)) (Set s key n) n (clear_from_op h (Set s key n) l.0) (value_of key s n))
    go (Some v) e = found (last_some (value_for key) (clear_ops (in_order h)) (clear_by_stamp h) v e)
      where
        found : ((o : Op) × IsLast (value_for key) (clear_ops (in_order h)) v o) → IsSetting h key (Some v)
        found r = (stamp_of r.0, (subst (IsClearOp h) (set_of key r.0 v r.1.1) (op_from_clear h r.0 r.1.0), tt), all)
          where
            older : (t : Stamp) (n : ℕ) → (Set t key n ≡ r.0) ⊎ (before t (stamp_of r.0) ≡ true) → (t ≡ stamp_of r.0) ⊎ (before t (stamp_of r.0) ≡ true)
            older t n (inl i) = inl (ap stamp_of i)
            older t n (inr b) = inr b

            all : (t : Stamp) (n : ℕ) → IsLiveOp h (Set t key n) → (t ≡ stamp_of r.0) ⊎ (before t (stamp_of r.0) ≡ true)
            all t n l = older t n (r.1.2 (Set t key n) (clear_from_op h (Set t key n) l.0) n (value_of key t n))
