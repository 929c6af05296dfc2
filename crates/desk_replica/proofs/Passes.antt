-- A pass over a set's operations, from the oldest to the newest.
use Rattle.std.proofs.Common.{◌≡◌, ℕ, zero, suc, ◌+◌, ◌<◌, Bool, true, false, cond, List, [], ◌∷◌, ◌++◌, length, get_or, take, refl, sym, ap, ◌∙◌, inl, inr, arith, Some}
use Rattle.std.specs.List.{filter, filter_map}
use Rattle.std.specs.declared.cmp.Ordering.TheVariants.{Less}
use Rattle.std.specs.Ordering.{is_lt}
use Rattle.std.proofs.lemmas.Bool.{true≢false}
use Rattle.std.proofs.lemmas.Cmp.{tied_itself}
use Rattle.std.proofs.lemmas.List.{append-nil, take_more}
use Rattle.desk_ops.specs.declared.op.Op.{Op}
use Rattle.desk_ops.specs.declared.op.Op.TheVariants.{Insert, Delete, Set}
use Rattle.desk_ops.specs.Stamp.{same, before}
use Rattle.desk_ops.specs.Op.{Insertion, insertion, stamp_of}
use Rattle.desk_ops.specs.Order.{op_cmp}
use Rattle.desk_ops.specs.OrderLaws.{op_total}
use Rattle.desk_ops.specs.OpSet.{OpSet, in_order}
use Rattle.desk_ops.specs.Lists.{Among}
use Rattle.desk_ops.specs.Held.{is_clear}
use Rattle.desk_ops.proofs.Stamps.{by_cases, same-refl, same-symm, before-other}
use Rattle.desk_ops.proofs.Lists.{Each, each-among, each-from_among, each-filter, each-at, among-at}
use Rattle.desk_ops.proofs.Means.{IsOrdered, ordered, clear_one}
use Rattle.desk_ops.proofs.Bearers.{stamp_not_before}

-- the clear ones among the first operations
abbrev pub clear_before : List Op → ℕ → List Op
clear_before ops i = filter (λ op. is_clear ops (stamp_of op)) (take i ops)

-- ---- what comes before an operation

pub each-taken : (P : Op → Type 0) (ops : List Op) (i : ℕ) → Each P ops → Each P (take i ops)
each-taken P [] zero h = tt
each-taken P [] (suc i) h = tt
each-taken P (o ∷ ops) zero h = tt
each-taken P (o ∷ ops) (suc i) h = (h.0, each-taken P ops i h.1)

pub below_it : (ops : List Op) (i : ℕ) (d : Op) → IsOrdered ops → i < length ops → Each (λ p. op_cmp p (get_or ops i d) ≡ Less) (take i ops)
below_it [] i d up lt = absurd (omega arith)
below_it (o ∷ ops) zero d up lt = tt
below_it (o ∷ ops) (suc i) d up lt = (each-at (λ p. op_cmp o p ≡ Less) ops i d up.0 (omega arith), below_it ops i d up.1 (omega arith))

pub among-taken : (ops : List Op) (i : ℕ) (p : Op) → Among p (take i ops) → Among p ops
among-taken [] zero p m = absurd m
among-taken [] (suc i) p m = absurd m
among-taken (o ∷ ops) zero p m = absurd m
among-taken (o ∷ ops) (suc i) p (inl e) = inl e
among-taken (o ∷ ops) (suc i) p (inr m) = inr (among-taken ops i p m)

-- a clear operation's stamp is later than all before it
clear_later : (ops : List Op) (p o : Op) → Among p ops → Among o ops → is_clear ops (stamp_of o) ≡ true → op_cmp p o ≡ Less → before (stamp_of p) (stamp_of o) ≡ true
clear_later ops p o m n clear less =
    before-other (stamp_of o) (stamp_of p) (stamp_not_before p o less)
    (by_cases (same (stamp_of o) (stamp_of p))
    (λ e. absurd (apart (clear_one ops (stamp_of o) clear o p n m (same-refl (stamp_of o)) (same-back e))))
    (λ e. e))
  where
    same-back : same (stamp_of o) (stamp_of p) ≡ true → same (stamp_of p) (stamp_of o) ≡ true
    same-back e = same-symm (stamp_of p) (stamp_of o) ∙ e

    apart : o ≡ p → ⊥
    apart e = true≢false (sym (ap is_lt less) ∙ ap (λ q. is_lt (op_cmp p q)) e ∙ ap is_lt (tied_itself op_total p))

pub filter-last : {A : Type 0} (f : A → Bool) (xs : List A) (o : A) → filter f (xs ++ o ∷ []) ≡ filter f xs ++ cond (f o) (o ∷ []) []
filter-last f [] o = refl
filter-last f (x ∷ xs) o = elim (f x) as (λ b. cond b (x ∷ filter f (xs ++ o ∷ [])) (filter f (xs ++ o ∷ [])) ≡ cond b (x ∷ filter f xs) (filter f xs) ++ cond (f o) (o ∷ []) []) [
  | true ↦ ap (λ l. x ∷ l) (filter-last f xs o)
  | false ↦ filter-last f xs o
]

module _ (h : OpSet) (i : ℕ) (d : Op) (lt : i < length (in_order h)) where
  taken_more : take (i + 1) (in_order h) ≡ take i (in_order h) ++ get_or (in_order h) i d ∷ []
  taken_more = take_more (in_order h) i d lt

  -- those before a clear operation have smaller stamps
  pub earlier_all : is_clear (in_order h) (stamp_of (get_or (in_order h) i d)) ≡ true → Each (λ p. before (stamp_of p) (stamp_of (get_or (in_order h) i d)) ≡ true) (take i (in_order h))
  earlier_all clear = each-from_among (λ p. before (stamp_of p) (stamp_of (get_or (in_order h) i d)) ≡ true) (take i (in_order h))
      (λ p m. clear_later (in_order h) p (get_or (in_order h) i d) (among-taken (in_order h) i p m) (among-at (in_order h) i d lt) clear
      (each-among (λ p. op_cmp p (get_or (in_order h) i d) ≡ Less) (take i (in_order h)) p (below_it (in_order h) i d (ordered h) lt) m))

  pub earlier : is_clear (in_order h) (stamp_of (get_or (in_order h) i d)) ≡ true → Each (λ p. before (stamp_of p) (stamp_of (get_or (in_order h) i d)) ≡ true) (clear_before (in_order h) i)
  earlier clear = each-filter (λ p. before (stamp_of p) (stamp_of (get_or (in_order h) i d)) ≡ true) (λ op. is_clear (in_order h) (stamp_of op)) (take i (in_order h)) (earlier_all clear)

  pub clear_before-clear : is_clear (in_order h) (stamp_of (get_or (in_order h) i d)) ≡ true → clear_before (in_order h) (i + 1) ≡ clear_before (in_order h) i ++ get_or (in_order h) i d ∷ []
  clear_before-clear clear = ap (filter (λ op. is_clear (in_order h) (stamp_of op))) taken_more ∙ filter-last (λ op. is_clear (in_order h) (stamp_of op)) (take i (in_order h)) (get_or (in_order h) i d)
      ∙ ap (λ b. clear_before (in_order h) i ++ cond b (get_or (in_order h) i d ∷ []) []) clear

  pub clear_before-other : is_clear (in_order h) (stamp_of (get_or (in_order h) i d)) ≡ false → clear_before (in_order h) (i + 1) ≡ clear_before (in_order h) i
  clear_before-other forked = ap (filter (λ op. is_clear (in_order h) (stamp_of op))) taken_more ∙ filter-last (λ op. is_clear (in_order h) (stamp_of op)) (take i (in_order h)) (get_or (in_order h) i d)
      ∙ ap (λ b. clear_before (in_order h) i ++ cond b (get_or (in_order h) i d ∷ []) []) forked ∙ append-nil (clear_before (in_order h) i)

pub each-insert : (Q : Insertion → Type 0) (R : Op → Type 0) → ((p : Op) (x : Insertion) → R p → insertion p ≡ Some x → Q x) → (ops : List Op) → Each R ops → Each Q (filter_map insertion ops)
each-insert Q R f [] h = tt
each-insert Q R f (Insert s p y ∷ ops) h = (f (Insert s p y) _ h.0 refl, each-insert Q R f ops h.1)
each-insert Q R f (Delete s t ∷ ops) h = each-insert Q R f ops h.1
each-insert Q R f (Set s k v ∷ ops) h = each-insert Q R f ops h.1
