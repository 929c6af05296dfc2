-- The greatest stamp wins.
use Rattle.std.proofs.Common.{◌≡◌, ◌==◌, ◌⊎◌, inl, inr, ℕ, true, false, List, [], ◌∷◌, Option, Some, None, refl, sym, ap, subst, ◌∙◌, eq-eqb}
use Rattle.std.proofs.lemmas.Bool.{eqb-true}
use Rattle.desk_ops.specs.declared.op.Stamp.{Stamp}
use Rattle.desk_ops.specs.declared.op.Key.{Key}
use Rattle.desk_ops.specs.Order.{key_code}
use Rattle.desk_ops.specs.Stamp.{before, same}
use Rattle.desk_ops.specs.OrderLaws.{key_code_exact}
use Rattle.desk_ops.proofs.Stamps.{by_cases, same-true, before-trans, before-other, before-asym}
use Rattle.desk_registers.specs.declared.Kept.{Kept}
use Rattle.desk_registers.specs.Registers.{greater, kept_with, nothing, IsGreatestOf}
use Rattle.desk_registers.specs.Laws.{Setting, kept_after, IsSet, GreatestIsKept, HasOneValue, OneGreatest}

-- ---- the greatest of the settings that a predicate holds of

pub same_greatest : (P Q : Stamp → ℕ → Type 0) (o : Option Kept) → ((s : Stamp) (n : ℕ) → P s n → Q s n) → ((s : Stamp) (n : ℕ) → Q s n → P s n) → IsGreatestOf P o → IsGreatestOf Q o
same_greatest P Q None f g h = λ s n q. h s n (g s n q)
same_greatest P Q (Some k) f g h = (f k.stamp k.value h.0, λ s n q. h.1 s n (g s n q))

-- the setting is of the key, and has this stamp and value
pub record Is (s : Setting) (key : Key) (stamp : Stamp) (value : ℕ) : Type 0 where
  pub key_is : s.key ≡ key
  pub stamp_is : s.stamp ≡ stamp
  pub value_is : s.value ≡ value

abbrev pub Or : (Stamp → ℕ → Type 0) → (Stamp → ℕ → Type 0) → Stamp → ℕ → Type 0
Or P Q stamp value = P stamp value ⊎ Q stamp value

abbrev kept_of : Setting → Kept
kept_of s = record { stamp = s.stamp; value = s.value }

up_to : (old new : Stamp) → before old new ≡ false → (new ≡ old) ⊎ (before new old ≡ true)
up_to old new e = by_cases (same old new) (λ t. inl (sym (same-true old new t))) (λ f. inr (before-other old new e f))

below : (st old new : Stamp) → (st ≡ old) ⊎ (before st old ≡ true) → before old new ≡ true → before st new ≡ true
below st old new (inl e) h = rw e h
below st old new (inr g) h = before-trans st old new g h

taken : (P : Stamp → ℕ → Type 0) (s : Setting) (key : Key) (o : Option Kept) → s.key ≡ key → IsGreatestOf P o → IsGreatestOf (Or P (Is s key)) (Some (greater o (kept_of s)))
taken P s key None e h = (inr (record { key_is = e; stamp_is = refl; value_is = refl }), λ st n q. elim q [ inl p ↦ absurd (h st n p) | inr i ↦ inl (sym i.stamp_is) ])
taken P s key (Some old) e h =
    by_cases (before old.stamp s.stamp)
    (λ t. rw t (inr (record { key_is = e; stamp_is = refl; value_is = refl }), λ st n q. elim q [ inl p ↦ inr (below st old.stamp s.stamp (h.1 st n p) t) | inr i ↦ inl (sym i.stamp_is) ]))
    (λ f. rw f (inl h.0, λ st n q. elim q [ inl p ↦ h.1 st n p | inr i ↦ subst (λ (x : Stamp). (x ≡ old.stamp) ⊎ (before x old.stamp ≡ true)) i.stamp_is (up_to old.stamp s.stamp f) ]))

passed : (P : Stamp → ℕ → Type 0) (s : Setting) (key : Key) (o : Option Kept) → (s.key ≡ key → ⊥) → IsGreatestOf P o → IsGreatestOf (Or P (Is s key)) o
passed P s key o n h = same_greatest P (Or P (Is s key)) o (λ st v p. inl p) (λ st v q. elim q [ inl p ↦ p | inr i ↦ absurd (n i.key_is) ]) h

same_codes : (a b : Key) → a ≡ b → (key_code a == key_code b) ≡ true
same_codes a b e = eq-eqb (key_code a) (key_code b) (ap key_code e)

other_key : (a b : Key) → (key_code a == key_code b) ≡ false → b ≡ a → ⊥
other_key a b f e = let t = same_codes a b (sym e) in let c : true ≡ false = sym t ∙ f in absurd cc

pub step : (P : Stamp → ℕ → Type 0) (first : Key → Option Kept) (s : Setting) (key : Key) → IsGreatestOf P (first key) → IsGreatestOf (Or P (Is s key)) (kept_with first s.stamp s.key s.value key)
step P first s key h =
    by_cases (key_code key == key_code s.key)
    (λ t. rw t (taken P s key (first key) (key_code_exact s.key key (sym (eqb-true (key_code key) (key_code s.key) t))) h))
    (λ f. rw f (passed P s key (first key) (other_key key s.key f) h))

-- ---- lists of settings

set_nil : (key : Key) (st : Stamp) (v : ℕ) → IsSet [] key st v → ⊥
set_nil key st v h = h.among

set_cons : (s : Setting) (ss : List Setting) (key : Key) (st : Stamp) (v : ℕ) → IsSet (s ∷ ss) key st v → Is s key st v ⊎ IsSet ss key st v
set_cons s ss key st v h =
    elim h.among [
      | inl e ↦ inl (record { key_is = ap (λ (x : Setting). x.key) e ∙ h.key_is; stamp_is = ap (λ (x : Setting). x.stamp) e ∙ h.stamp_is; value_is = ap (λ (x : Setting). x.value) e ∙ h.value_is })
      | inr m ↦ inr (record { setting = h.setting; among = m; key_is = h.key_is; stamp_is = h.stamp_is; value_is = h.value_is })
    ]

set_here : (s : Setting) (ss : List Setting) (key : Key) (st : Stamp) (v : ℕ) → Is s key st v → IsSet (s ∷ ss) key st v
set_here s ss key st v h = record { setting = s; among = inl refl; key_is = h.key_is; stamp_is = h.stamp_is; value_is = h.value_is }

set_there : (s : Setting) (ss : List Setting) (key : Key) (st : Stamp) (v : ℕ) → IsSet ss key st v → IsSet (s ∷ ss) key st v
set_there s ss key st v h = record { setting = h.setting; among = inr h.among; key_is = h.key_is; stamp_is = h.stamp_is; value_is = h.value_is }

kept_all : (ss : List Setting) (P : Stamp → ℕ → Type 0) (first : Key → Option Kept) (key : Key) → IsGreatestOf P (first key) → IsGreatestOf (Or P (IsSet ss key)) (kept_after first ss key)
kept_all [] P first key h =
    same_greatest P (Or P (IsSet [] key)) (first key) (λ st v p. inl p) (λ st v q. elim q [ inl p ↦ p | inr i ↦ absurd (set_nil key st v i) ]) h
kept_all (s ∷ ss) P first key h =
    let next = kept_with first s.stamp s.key s.value in
    same_greatest (Or (Or P (Is s key)) (IsSet ss key)) (Or P (IsSet (s ∷ ss) key)) (kept_after next ss key)
    (λ st v q. elim q [ inl p ↦ elim p [ inl x ↦ inl x | inr i ↦ inr (set_here s ss key st v i) ] | inr m ↦ inr (set_there s ss key st v m) ])
    (λ st v q. elim q [ inl x ↦ inl (inl x) | inr m ↦ elim (set_cons s ss key st v m) [ inl i ↦ inl (inr i) | inr n ↦ inr n ] ])
    (kept_all ss (Or P (Is s key)) next key (step P first s key h))

abbrev Never : Stamp → ℕ → Type 0
Never stamp value = ⊥

pub greatest_is_kept : GreatestIsKept
greatest_is_kept ss key =
    same_greatest (Or Never (IsSet ss key)) (IsSet ss key) (kept_after nothing ss key) (λ st v q. elim q [ inl x ↦ absurd x | inr i ↦ i ]) (λ st v i. inr i)
    (kept_all ss Never nothing key (λ st v x. x))

-- ---- the greatest is one

kept_exact : (j k : Kept) → j.stamp ≡ k.stamp → j.value ≡ k.value → j ≡ k
kept_exact j k e f i = record { stamp = e i; value = f i }

one_stamp : (a b : Stamp) → (a ≡ b) ⊎ (before a b ≡ true) → (b ≡ a) ⊎ (before b a ≡ true) → a ≡ b
one_stamp a b (inl e) g = e
one_stamp a b (inr f) (inl e) = sym e
one_stamp a b (inr f) (inr g) = let c : true ≡ false = sym g ∙ before-asym a b f in absurd cc

one_of : (a b : List Setting) (key : Key) (x y : Option Kept) → HasOneValue a key → ((s : Stamp) (n : ℕ) → IsSet a key s n → IsSet b key s n) → ((s : Stamp) (n : ℕ) → IsSet b key s n → IsSet a key s n) → IsGreatestOf (IsSet a key) x → IsGreatestOf (IsSet b key) y → x ≡ y
one_of a b key None None one f g h i = refl
one_of a b key None (Some k) one f g h i = absurd (h k.stamp k.value (g k.stamp k.value i.0))
one_of a b key (Some j) None one f g h i = absurd (i j.stamp j.value (f j.stamp j.value h.0))
one_of a b key (Some j) (Some k) one f g h i =
    let mine : IsSet a key k.stamp k.value = g k.stamp k.value i.0 in
    let stamp : j.stamp ≡ k.stamp = one_stamp j.stamp k.stamp (i.1 j.stamp j.value (f j.stamp j.value h.0)) (h.1 k.stamp k.value mine) in
    let value : j.value ≡ k.value = one k.stamp j.value k.value (subst (λ (s : Stamp). IsSet a key s j.value) stamp h.0) mine in
    ap (λ (x : Kept). Some x) (kept_exact j k stamp value)

pub one_greatest : OneGreatest
one_greatest a b key one f g = one_of a b key (kept_after nothing a key) (kept_after nothing b key) one f g (greatest_is_kept a key) (greatest_is_kept b key)
