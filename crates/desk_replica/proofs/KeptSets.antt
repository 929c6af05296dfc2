-- What is kept of each key, while operations come.
use Rattle.std.proofs.Common.{◌≡◌, ℕ, ◌+◌, ◌<◌, ◌≤◌, true, false, List, [], ◌∷◌, ◌++◌, length, get_or, refl, sym, ap, ◌∙◌, subst, ◌⊎◌, inl, inr}
use Rattle.std.specs.Prelude.{Option, Some, None, IsSome, option_map}
use Rattle.std.proofs.lemmas.Bool.{true≢false}
use Rattle.std.proofs.lemmas.List.{take_all}
use Rattle.std.specs.List.{filter}
use Rattle.desk_ops.specs.declared.op.Stamp.{Stamp}
use Rattle.desk_ops.specs.declared.op.Key.{Key}
use Rattle.desk_ops.specs.declared.op.Op.{Op}
use Rattle.desk_ops.specs.declared.op.Op.TheVariants.{Insert, Delete, Set}
use Rattle.desk_ops.specs.Stamp.{before}
use Rattle.desk_ops.specs.Op.{stamp_of, target_of}
use Rattle.desk_ops.specs.OpSet.{OpSet, no_ops, with_op, in_order}
use Rattle.desk_ops.specs.Lists.{Among}
use Rattle.desk_ops.specs.Held.{is_borne_in, is_clear, clear_ops}
use Rattle.desk_ops.specs.Live.{IsClearOp}
use Rattle.desk_ops.specs.Settings.{value_for, setting_of, IsSetting}
use Rattle.desk_ops.proofs.Stamps.{by_cases, same-refl, same-from, before-irrefl, before-trans}
use Rattle.desk_ops.proofs.Lists.{Each, each-among}
use Rattle.desk_ops.proofs.Means.{clear_one}
use Rattle.desk_ops.proofs.Ends.{among_held, clear_from_op, op_from_clear}
use Rattle.desk_ops.proofs.Fresh.{clear_old, clear_new, own_clear}
use Rattle.desk_ops.proofs.Bearers.{op_borne}
use Rattle.desk_ops.proofs.Values.{is_setting, value_of}
use Rattle.desk_ops.proofs.OpSets.{no_ops-from_rising, in_order-from_rising}
use Rattle.desk_registers.specs.declared.Kept.{Kept}
use Rattle.desk_registers.specs.Registers.{kept_with, IsOther, IsGreatestOf}
use Rattle.desk_registers.proofs.Greatest.{same_greatest, step, Or, Is}
use Rattle.desk_replica.specs.JobSettings.{kept_op, IsOtherSet, Sets, AreKept}
use Rattle.desk_replica.proofs.Passes.{clear_before, clear_before-clear, clear_before-other, earlier}

-- ---- the value

pub value_is : (h : OpSet) (key : Key) (k : Option Kept) → IsGreatestOf (Sets h key) k → option_map (λ (k : Kept). k.value) k ≡ setting_of h key
value_is h key k a = go k (setting_of h key) a (is_setting h key)
  where
    go : (k : Option Kept) (r : Option ℕ) → IsGreatestOf (Sets h key) k → IsSetting h key r → option_map (λ (k : Kept). k.value) k ≡ r
    go None None a b = refl
    go None (Some w) a b = absurd (a b.0 w b.1)
    go (Some j) None a b = absurd (b j.stamp j.value a.0)
    go (Some j) (Some w) a b = both (a.1 b.0 w b.1) (b.2 j.stamp j.value a.0)
      where
        tied : b.0 ≡ j.stamp → Some j.value ≡ Some w
        tied e =
            sym (value_of key j.stamp j.value)
            ∙ ap (value_for key) (clear_one (in_order h) j.stamp a.0.0.1 (Set j.stamp key j.value) (Set b.0 key w) (among_held h (Set j.stamp key j.value) a.0.0.0) (among_held h (Set b.0 key w) b.1.0.0) (same-refl j.stamp) (same-from b.0 j.stamp e))
            ∙ value_of key b.0 w

        both : (b.0 ≡ j.stamp) ⊎ (before b.0 j.stamp ≡ true) → (j.stamp ≡ b.0) ⊎ (before j.stamp b.0 ≡ true) → Some j.value ≡ Some w
        both (inl e) f = tied e
        both (inr e) (inl f) = tied (sym f)
        both (inr e) (inr f) = absurd (before-irrefl j.stamp (before-trans j.stamp b.0 j.stamp f e))

-- ---- an operation whose stamp is new

module _ (h : OpSet) (o : Op) (fresh : is_borne_in h (stamp_of o) ≡ false) where
  unset : (kept : Key → Option Kept) (key : Key) → ((s : Stamp) (n : ℕ) → o ≡ Set s key n → ⊥) → IsGreatestOf (Sets h key) (kept key) → IsGreatestOf (Sets (with_op h o) key) (kept key)
  unset kept key other a = same_greatest (Sets h key) (Sets (with_op h o) key) (kept key) (λ s n l. (clear_old h o fresh (Set s key n) l.0, tt)) (λ s n l. (back s n (clear_new h o fresh (Set s key n) l.0), tt)) a
    where
      back : (s : Stamp) (n : ℕ) → (o ≡ Set s key n) ⊎ IsClearOp h (Set s key n) → IsClearOp h (Set s key n)
      back s n (inl e) = absurd (other s n e)
      back s n (inr c) = c

  set_is : (s t : Stamp) (k key : Key) (v n : ℕ) → o ≡ Set s k v → Is (record { stamp = s; key = k; value = v }) key t n → IsClearOp (with_op h o) (Set t key n)
  set_is s t k key v n e i =
      let f : o ≡ Set t key n = e ∙ ap (λ k. Set s k v) i.key_is ∙ ap (λ s. Set s key v) i.stamp_is ∙ ap (Set t key) i.value_is in
      subst (IsClearOp (with_op h o)) f (own_clear h o fresh)

  more : (s : Stamp) (k : Key) (v : ℕ) → o ≡ Set s k v → (kept : Key → Option Kept) (key : Key) → IsGreatestOf (Sets h key) (kept key) → IsGreatestOf (Sets (with_op h o) key) (kept_with kept s k v key)
  more s k v e kept key a =
      same_greatest (Or (Sets h key) (Is (record { stamp = s; key = k; value = v }) key)) (Sets (with_op h o) key) (kept_with kept s k v key)
      (λ t n q. elim q [ inl l ↦ (clear_old h o fresh (Set t key n) l.0, tt) | inr i ↦ (set_is s t k key v n e i, tt) ])
      (λ t n l. back t n (clear_new h o fresh (Set t key n) l.0))
      (step (Sets h key) kept (record { stamp = s; key = k; value = v }) key a)
    where
      is_it : (t : Stamp) (n : ℕ) → Set s k v ≡ Set t key n → Is (record { stamp = s; key = k; value = v }) key t n
      is_it t n f = record { key_is = cc; stamp_is = ap stamp_of f; value_is = cc }

      back : (t : Stamp) (n : ℕ) → (o ≡ Set t key n) ⊎ IsClearOp h (Set t key n) → Or (Sets h key) (Is (record { stamp = s; key = k; value = v }) key) t n
      back t n (inl f) = inr (is_it t n (sym e ∙ f))
      back t n (inr c) = inl (c, tt)

pub kept-new : (h : OpSet) (o : Op) → is_borne_in h (stamp_of o) ≡ false → (kept : Key → Option Kept) → AreKept h kept → AreKept (with_op h o) (kept_op kept o)
kept-new h (Insert s p y) fresh kept a key = unset h (Insert s p y) fresh kept key (λ t n e. cc) (a key)
kept-new h (Delete s t) fresh kept a key = unset h (Delete s t) fresh kept key (λ t n e. cc) (a key)
kept-new h (Set s k v) fresh kept a key = more h (Set s k v) fresh s k v refl kept key (a key)

pub other-new : (h : OpSet) (o : Op) → is_borne_in h (stamp_of o) ≡ false → (kept : Key → Option Kept) → AreKept h kept → IsOtherSet kept o
other-new h (Insert s p y) fresh kept a = tt
other-new h (Delete s t) fresh kept a = tt
other-new h (Set s k v) fresh kept a = go (kept k) (a k)
  where
    go : (r : Option Kept) → IsGreatestOf (Sets h k) r → IsOther r s
    go None g = tt
    go (Some old) g = λ e. true≢false (sym (op_borne h s (Set old.stamp k old.value, g.0.0.0, e)) ∙ fresh)

pub kept-alike : (h : OpSet) (kept after : Key → Option Kept) → ((key : Key) → after key ≡ kept key) → AreKept h kept → AreKept h after
kept-alike h kept after e a key = subst (IsGreatestOf (Sets h key)) (sym (e key)) (a key)

pub kept-none : (kept : Key → Option Kept) → ((key : Key) → kept key ≡ None) → AreKept no_ops kept
kept-none kept e key = subst (IsGreatestOf (Sets no_ops key)) (sym (e key)) (λ s n l. subst (Among (Set s key n)) (ap in_order (sym no_ops-from_rising) ∙ in_order-from_rising [] tt) (among_held no_ops (Set s key n) l.0.0))

-- ---- one pass over the clear operations

abbrev IsAmong : List Op → Key → Stamp → ℕ → Type 0
IsAmong ops key stamp value = Among (Set stamp key value) ops

abbrev pub AreKeptOf : List Op → (Key → Option Kept) → Type 0
AreKeptOf ops kept = (key : Key) → IsGreatestOf (IsAmong ops key) (kept key)

among-last : (ops : List Op) (o p : Op) → Among p (ops ++ o ∷ []) → (o ≡ p) ⊎ Among p ops
among-last [] o p (inl e) = inl e
among-last [] o p (inr m) = inr m
among-last (q ∷ ops) o p (inl e) = inr (inl e)
among-last (q ∷ ops) o p (inr m) = go (among-last ops o p m)
  where
    go : (o ≡ p) ⊎ Among p ops → (o ≡ p) ⊎ Among p (q ∷ ops)
    go (inl e) = inl e
    go (inr n) = inr (inr n)

last-among : (ops : List Op) (o p : Op) → (o ≡ p) ⊎ Among p ops → Among p (ops ++ o ∷ [])
last-among [] o p (inl e) = inl e
last-among [] o p (inr m) = absurd m
last-among (q ∷ ops) o p (inl e) = inr (last-among ops o p (inl e))
last-among (q ∷ ops) o p (inr (inl e)) = inl e
last-among (q ∷ ops) o p (inr (inr m)) = inr (last-among ops o p (inr m))

kept-unset : (ops : List Op) (o : Op) (kept : Key → Option Kept) (key : Key) → ((s : Stamp) (n : ℕ) → o ≡ Set s key n → ⊥) → IsGreatestOf (IsAmong ops key) (kept key) → IsGreatestOf (IsAmong (ops ++ o ∷ []) key) (kept key)
kept-unset ops o kept key other a = same_greatest (IsAmong ops key) (IsAmong (ops ++ o ∷ []) key) (kept key) (λ s n m. last-among ops o (Set s key n) (inr m)) (λ s n m. back s n (among-last ops o (Set s key n) m)) a
  where
    back : (s : Stamp) (n : ℕ) → (o ≡ Set s key n) ⊎ Among (Set s key n) ops → Among (Set s key n) ops
    back s n (inl e) = absurd (other s n e)
    back s n (inr m) = m

kept-last : (ops : List Op) (o : Op) (kept : Key → Option Kept) → AreKeptOf ops kept → AreKeptOf (ops ++ o ∷ []) (kept_op kept o)
kept-last ops (Insert s p y) kept a key = kept-unset ops (Insert s p y) kept key (λ t n e. cc) (a key)
kept-last ops (Delete s t) kept a key = kept-unset ops (Delete s t) kept key (λ t n e. cc) (a key)
kept-last ops (Set s k v) kept a key =
    same_greatest (Or (IsAmong ops key) (Is (record { stamp = s; key = k; value = v }) key)) (IsAmong (ops ++ Set s k v ∷ []) key) (kept_with kept s k v key)
    (λ t n q. last-among ops (Set s k v) (Set t key n) (to t n q))
    (λ t n m. back t n (among-last ops (Set s k v) (Set t key n) m))
    (step (IsAmong ops key) kept (record { stamp = s; key = k; value = v }) key (a key))
  where
    to : (t : Stamp) (n : ℕ) → Or (IsAmong ops key) (Is (record { stamp = s; key = k; value = v }) key) t n → (Set s k v ≡ Set t key n) ⊎ Among (Set t key n) ops
    to t n (inl m) = inr m
    to t n (inr i) = inl (ap (λ k. Set s k v) i.key_is ∙ ap (λ s. Set s key v) i.stamp_is ∙ ap (Set t key) i.value_is)

    is_it : (t : Stamp) (n : ℕ) → Set s k v ≡ Set t key n → Is (record { stamp = s; key = k; value = v }) key t n
    is_it t n f = record { key_is = cc; stamp_is = ap stamp_of f; value_is = cc }

    back : (t : Stamp) (n : ℕ) → (Set s k v ≡ Set t key n) ⊎ Among (Set t key n) ops → Or (IsAmong ops key) (Is (record { stamp = s; key = k; value = v }) key) t n
    back t n (inl f) = inr (is_it t n f)
    back t n (inr m) = inl m

alike : (ops : List Op) (kept after : Key → Option Kept) → ((key : Key) → after key ≡ kept key) → AreKeptOf ops kept → AreKeptOf ops after
alike ops kept after e a key = subst (IsGreatestOf (IsAmong ops key)) (sym (e key)) (a key)

module _ (h : OpSet) (ops : List Op) (is : ops ≡ in_order h) (i : ℕ) (d : Op) (lt : i < length ops) where
  pub pass-clear : (kept after : Key → Option Kept) → is_clear (in_order h) (stamp_of (get_or ops i d)) ≡ true → AreKeptOf (clear_before (in_order h) i) kept → ((key : Key) → after key ≡ kept_op kept (get_or ops i d) key) → AreKeptOf (clear_before (in_order h) (i + 1)) after
  pass-clear kept after clear a e =
      subst (λ l. AreKeptOf l after) (sym (clear_before-clear h i d (subst (λ os. i < length os) is lt) (ap (λ os. is_clear (in_order h) (stamp_of (get_or os i d))) (sym is) ∙ clear)))
      (alike (clear_before (in_order h) i ++ get_or (in_order h) i d ∷ []) (kept_op kept (get_or (in_order h) i d)) after (λ key. e key ∙ ap (λ os. kept_op kept (get_or os i d) key) is) (kept-last (clear_before (in_order h) i) (get_or (in_order h) i d) kept a))

  pub pass-other : (kept : Key → Option Kept) → is_clear (in_order h) (stamp_of (get_or ops i d)) ≡ false → AreKeptOf (clear_before (in_order h) i) kept → AreKeptOf (clear_before (in_order h) (i + 1)) kept
  pass-other kept forked a =
      subst (λ l. AreKeptOf l kept) (sym (clear_before-other h i d (subst (λ os. i < length os) is lt) (ap (λ os. is_clear (in_order h) (stamp_of (get_or os i d))) (sym is) ∙ forked))) a

  -- one that is not clear, or makes no setting
  pub pass-idle : (kept : Key → Option Kept) → (is_clear (in_order h) (stamp_of (get_or ops i d)) ≡ false) ⊎ IsSome (target_of (get_or ops i d)) → AreKeptOf (clear_before (in_order h) i) kept → AreKeptOf (clear_before (in_order h) (i + 1)) kept
  pass-idle kept (inl forked) a = pass-other kept forked a
  pass-idle kept (inr hangs) a = by_cases (is_clear (in_order h) (stamp_of (get_or ops i d)))
      (λ clear. pass-clear kept kept clear a (λ key. sym (idle (get_or ops i d) hangs key)))
      (λ forked. pass-other kept forked a)
    where
      idle : (o : Op) → IsSome (target_of o) → (key : Key) → kept_op kept o key ≡ kept key
      idle (Insert stamp parent symbol) some key = refl
      idle (Delete stamp target) some key = refl
      idle (Set stamp k value) some key = absurd (true≢false (sym some))

  pub pass-apart : (kept : Key → Option Kept) → is_clear (in_order h) (stamp_of (get_or ops i d)) ≡ true → AreKeptOf (clear_before (in_order h) i) kept → IsOtherSet kept (get_or ops i d)
  pass-apart kept clear a =
      go (get_or ops i d)
      (subst (λ os. Each (λ p. before (stamp_of p) (stamp_of (get_or os i d)) ≡ true) (clear_before (in_order h) i)) (sym is)
      (earlier h i d (subst (λ os. i < length os) is lt) (ap (λ os. is_clear (in_order h) (stamp_of (get_or os i d))) (sym is) ∙ clear)))
    where
      go : (o : Op) → Each (λ p. before (stamp_of p) (stamp_of o) ≡ true) (clear_before (in_order h) i) → IsOtherSet kept o
      go (Insert s p y) b = tt
      go (Delete s t) b = tt
      go (Set s k v) b = which (kept k) (a k)
        where
          which : (r : Option Kept) → IsGreatestOf (IsAmong (clear_before (in_order h) i) k) r → IsOther r s
          which None g = tt
          which (Some old) g = λ e. before-irrefl s (subst (λ t. before t s ≡ true) e (each-among (λ p. before (stamp_of p) s ≡ true) (clear_before (in_order h) i) (Set old.stamp k old.value) b g.0))

pub pass-all : (h : OpSet) (ops : List Op) → ops ≡ in_order h → (i : ℕ) (kept : Key → Option Kept) → length ops ≤ i → AreKeptOf (clear_before (in_order h) i) kept → AreKept h kept
unfolding clear_ops
pass-all h ops is i kept le a key =
    same_greatest (IsAmong (clear_before (in_order h) i) key) (Sets h key) (kept key)
    (λ s n m. (op_from_clear h (Set s key n) (subst (Among (Set s key n)) all m), tt))
    (λ s n l. subst (Among (Set s key n)) (sym all) (clear_from_op h (Set s key n) l.0))
    (a key)
  where
    all : clear_before (in_order h) i ≡ clear_ops (in_order h)
    all = ap (filter (λ op. is_clear (in_order h) (stamp_of op))) (take_all i (in_order h) (subst (λ os. length os ≤ i) is le))

-- ---- what adding reported
