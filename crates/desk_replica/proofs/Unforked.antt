-- Operations that bear stamps of their own.
use Rattle.std.proofs.Common.{◌≡◌, ℕ, suc, ◌+◌, ◌-◌, ◌<◌, ◌≤◌, ◌||◌, ◌⊎◌, inl, inr, true, false, List, [], ◌∷◌, ◌++◌, length, get_or, drop, reverse, refl, sym, ap, ◌∙◌, subst, arith}
use Rattle.std.specs.List.{list_any}
use Rattle.std.proofs.lemmas.Bool.{cases_eq, or_parts}
use Rattle.std.proofs.lemmas.List.{get_or_default, reverse-append}
use Rattle.desk_ops.specs.declared.op.Op.{Op}
use Rattle.desk_ops.specs.Op.{stamp_of}
use Rattle.desk_ops.specs.Stamp.{before, same}
use Rattle.desk_ops.specs.OpSet.{OpSet, with_op, with_all, size, max_ops}
use Rattle.desk_ops.specs.Held.{is_borne_in}
use Rattle.desk_ops.proofs.Stamps.{before-trans, before-apart_left, same-symm}
use Rattle.desk_ops.proofs.Lists.{Each, Each-weaker}
use Rattle.desk_ops.proofs.Joined.{is_borne-with_op}
use Rattle.desk_ops.proofs.Unions.{with_op-comm, with_all_push}
use Rattle.desk_held.proofs.Joins.{with_op-with_all}
use Rattle.desk_replica.specs.State.{AreApart, RiseByStamp}
use Rattle.desk_replica.proofs.Sets.{split-at, grows_by_one}

rest-rise : (o : Op) (ops : List Op) → RiseByStamp (o ∷ ops) → RiseByStamp ops
rest-rise o ops up i d lt = let e : suc i + 1 ≡ suc (i + 1) = omega arith in ap (λ (n : ℕ). before (stamp_of (get_or ops i d)) (stamp_of (get_or (o ∷ ops) n d))) (sym e) ∙ up (suc i) d (omega (arith, lt))

-- each stamp of the list is greater than those before it
later-all : (o : Op) (ops : List Op) → RiseByStamp (o ∷ ops) → Each (λ p. before (stamp_of o) (stamp_of p) ≡ true) ops
later-all o [] up = tt
later-all o (p ∷ ops) up =
    let first : before (stamp_of o) (stamp_of p) ≡ true = up 0 o (omega arith) in
    (first, Each-weaker (λ q. before (stamp_of p) (stamp_of q) ≡ true) (λ q. before (stamp_of o) (stamp_of q) ≡ true) (λ q e. before-trans (stamp_of o) (stamp_of p) (stamp_of q) first e) ops (later-all p ops (rest-rise o (p ∷ ops) up)))

not-borne : (h : OpSet) (o : Op) (ops : List Op) → Each (λ p. before (stamp_of o) (stamp_of p) ≡ true) ops → list_any (λ op. is_borne_in h (stamp_of op)) ops ≡ false → list_any (λ op. is_borne_in (with_op h o) (stamp_of op)) ops ≡ false
not-borne h o [] later none = refl
not-borne h o (p ∷ ops) later none =
    let n = or_parts (is_borne_in h (stamp_of p)) (list_any (λ op. is_borne_in h (stamp_of op)) ops) none in
    ap (λ b. b || list_any (λ op. is_borne_in (with_op h o) (stamp_of op)) ops)
    (is_borne-with_op h o (stamp_of p) ∙ ap (λ b. b || is_borne_in h (stamp_of p)) (before-apart_left (stamp_of o) (stamp_of p) later.0) ∙ n.0)
    ∙ not-borne h o ops later.1 n.1

-- where stamps rise and none of them is borne, each operation bears its own
pub apart : (h : OpSet) (ops : List Op) → RiseByStamp ops → list_any (λ op. is_borne_in h (stamp_of op)) ops ≡ false → AreApart h ops
apart h [] up none = tt
apart h (o ∷ ops) up none =
    let n = or_parts (is_borne_in h (stamp_of o)) (list_any (λ op. is_borne_in h (stamp_of op)) ops) none in
    (n.0, apart (with_op h o) ops (rest-rise o ops up) (not-borne h o ops (later-all o ops up) n.1))

-- the pair before i, and those before it
pub rise-more : (ops : List Op) (i : ℕ) (e : Op) → 1 ≤ i → i < length ops → ((k : ℕ) (d : Op) → k + 1 < i → k + 1 < length ops → before (stamp_of (get_or ops k d)) (stamp_of (get_or ops (k + 1) d)) ≡ true) → before (stamp_of (get_or ops (i - 1) e)) (stamp_of (get_or ops i e)) ≡ true → (k : ℕ) (d : Op) → k + 1 < i + 1 → k + 1 < length ops → before (stamp_of (get_or ops k d)) (stamp_of (get_or ops (k + 1) d)) ≡ true
rise-more ops i e some l h last k d w v = go (cases_eq (k + 1) i)
  where
    go : (k + 1 ≡ i) ⊎ (k + 1 ≡ i → ⊥) → before (stamp_of (get_or ops k d)) (stamp_of (get_or ops (k + 1) d)) ≡ true
    go (inl q) =
        let before_it : k ≡ i - 1 = omega (arith, q, some) in
        ap (λ (o : Op). before (stamp_of o) (stamp_of (get_or ops (k + 1) d))) (get_or_default ops k d e (omega (arith, v)))
        ∙ ap (λ (o : Op). before (stamp_of (get_or ops k e)) (stamp_of o)) (get_or_default ops (k + 1) d e v)
        ∙ ap (λ (n : ℕ). before (stamp_of (get_or ops n e)) (stamp_of (get_or ops (k + 1) e))) before_it
        ∙ ap (λ (n : ℕ). before (stamp_of (get_or ops (i - 1) e)) (stamp_of (get_or ops n e))) q
        ∙ last
    go (inr n) = h k d (omega (arith, w, n)) v

-- ---- operations that are taken in one after the other

module _ (h : OpSet) (ops : List Op) (i : ℕ) (o : Op) (lt : i < length ops) (at : o ≡ get_or ops i o) (all : AreApart h (drop i ops)) where
  here : AreApart h (o ∷ drop (i + 1) ops)
  here = subst (AreApart h) (split-at ops i o lt at) all

  pub apart-here : is_borne_in h (stamp_of o) ≡ false
  apart-here = here.0

  pub apart-rest : (after : OpSet) → after ≡ with_op h o → AreApart after (drop (i + 1) ops)
  apart-rest after e = subst (λ (g : OpSet). AreApart g (drop (i + 1) ops)) (sym e) here.1

pub entered-size : (h after : OpSet) (o : Op) (n m : ℕ) → after ≡ with_op h o → size h + n ≤ max_ops + m → size after + n ≤ max_ops + (m + 1)
entered-size h after o n m e le = let a : size after ≡ size (with_op h o) = ap size e in let b = grows_by_one h o in omega (arith, a, b, le)

-- ---- operations that are taken in from the last on

-- the first of a list can come last
first-last : (h : OpSet) (ops : List Op) (o : Op) → is_borne_in h (stamp_of o) ≡ false → AreApart (with_op h o) ops → AreApart h (ops ++ o ∷ [])
first-last h [] o new all = (new, tt)
first-last h (p ∷ ops) o new all =
    let n = or_parts (same (stamp_of o) (stamp_of p)) (is_borne_in h (stamp_of p)) (sym (is_borne-with_op h o (stamp_of p)) ∙ all.0) in
    let last : is_borne_in (with_op h p) (stamp_of o) ≡ false = is_borne-with_op h p (stamp_of o) ∙ ap (λ b. b || is_borne_in h (stamp_of o)) (same-symm (stamp_of p) (stamp_of o) ∙ n.0) ∙ new in
    (n.1, first-last (with_op h p) ops o last (subst (λ (g : OpSet). AreApart g ops) (with_op-comm h o p) all.1))

turned : (o : Op) (ops : List Op) → reverse (o ∷ ops) ≡ reverse ops ++ o ∷ []
turned o ops = reverse-append (o ∷ []) ops

pub apart-reversed : (h : OpSet) (ops : List Op) → AreApart h ops → AreApart h (reverse ops)
apart-reversed h [] all = tt
apart-reversed h (o ∷ ops) all = subst (AreApart h) (sym (turned o ops)) (first-last h (reverse ops) o all.0 (apart-reversed (with_op h o) ops all.1))

pub gained-reversed : (h : OpSet) (ops : List Op) → with_all h (reverse ops) ≡ with_all h ops
gained-reversed h [] = refl
gained-reversed h (o ∷ ops) = ap (with_all h) (turned o ops) ∙ with_all_push h (reverse ops) o ∙ ap (λ (g : OpSet). with_op g o) (gained-reversed h ops) ∙ sym (with_op-with_all h o ops)
