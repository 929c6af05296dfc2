-- An operation with a greater counter than all that are held: the settings with it.
use Rattle.std.proofs.Common.{◌≡◌, ℕ, ◌<◌, ◌≤◌, sym, ap, refl, ◌∙◌, ◌⊎◌, inl, inr, Option, Some, None, true, arith}
use Rattle.desk_ops.specs.declared.op.Stamp.{Stamp}
use Rattle.desk_ops.specs.declared.op.Key.{Key}
use Rattle.desk_ops.specs.declared.op.Op.{Op}
use Rattle.desk_ops.specs.declared.op.Op.TheVariants.{Set}
use Rattle.desk_ops.specs.Stamp.{before}
use Rattle.desk_ops.specs.Op.{stamp_of}
use Rattle.desk_ops.specs.OpSet.{OpSet, with_op, in_order, AllLawful}
use Rattle.desk_ops.specs.Held.{greatest_counter_of}
use Rattle.desk_ops.specs.Live.{IsClearOp, IsLiveOp}
use Rattle.desk_ops.specs.Settings.{value_for, setting_of, IsSetting}
use Rattle.desk_ops.proofs.Stamps.{same-refl, same-from, before-irrefl, before-trans}
use Rattle.desk_ops.proofs.Means.{clear_one, counter-before}
use Rattle.desk_ops.proofs.Ends.{among_held}
use Rattle.desk_ops.proofs.Values.{is_setting, value_of}
use Rattle.desk_ops.proofs.Bearers.{counter_within}
use Rattle.desk_ops.proofs.Fresh.{clear_old, clear_new, own_clear}
use Rattle.desk_ops.proofs.Newest.{fresh}

-- a key has one setting
same_setting : (h : OpSet) (key : Key) (r q : Option ℕ) → IsSetting h key r → IsSetting h key q → r ≡ q
same_setting h key None None a b = refl
same_setting h key None (Some w) a b = absurd (a b.0 w b.1)
same_setting h key (Some v) None a b = absurd (b a.0 v a.1)
same_setting h key (Some v) (Some w) a b = go (a.2 b.0 w b.1) (b.2 a.0 v a.1)
  where
    tied : b.0 ≡ a.0 → Some v ≡ Some w
    tied e =
        sym (value_of key a.0 v)
        ∙ ap (value_for key) (clear_one (in_order h) a.0 a.1.0.1 (Set a.0 key v) (Set b.0 key w) (among_held h (Set a.0 key v) a.1.0.0) (among_held h (Set b.0 key w) b.1.0.0) (same-refl a.0) (same-from b.0 a.0 e))
        ∙ value_of key b.0 w

    go : (b.0 ≡ a.0) ⊎ (before b.0 a.0 ≡ true) → (a.0 ≡ b.0) ⊎ (before a.0 b.0 ≡ true) → Some v ≡ Some w
    go (inl e) f = tied e
    go (inr e) (inl f) = tied (sym f)
    go (inr e) (inr f) = absurd (before-irrefl a.0 (before-trans a.0 b.0 a.0 f e))

kept_setting : (h g : OpSet) (key : Key) → ((t : Stamp) (n : ℕ) → IsLiveOp h (Set t key n) → IsLiveOp g (Set t key n)) → ((t : Stamp) (n : ℕ) → IsLiveOp g (Set t key n) → IsLiveOp h (Set t key n)) → (r : Option ℕ) → IsSetting h key r → IsSetting g key r
kept_setting h g key to back None a = λ t n l. a t n (back t n l)
kept_setting h g key to back (Some v) a = (a.0, to a.0 v a.1, λ t n l. a.2 t n (back t n l))

-- an operation that does not set the key leaves it
pub setting_stays : (h : OpSet) → AllLawful h → (o : Op) → greatest_counter_of h < (stamp_of o).counter → (key : Key) → ((t : Stamp) (n : ℕ) → o ≡ Set t key n → ⊥) → setting_of (with_op h o) key ≡ setting_of h key
setting_stays h lawful o newest key other =
    same_setting (with_op h o) key (setting_of (with_op h o) key) (setting_of h key) (is_setting (with_op h o) key)
    (kept_setting h (with_op h o) key (λ t n l. (clear_old h o (fresh h lawful o newest) (Set t key n) l.0, tt)) (λ t n l. (back t n (clear_new h o (fresh h lawful o newest) (Set t key n) l.0), tt)) (setting_of h key) (is_setting h key))
  where
    back : (t : Stamp) (n : ℕ) → (o ≡ Set t key n) ⊎ IsClearOp h (Set t key n) → IsClearOp h (Set t key n)
    back t n (inl e) = absurd (other t n e)
    back t n (inr c) = c

-- one that does is its value
pub setting_new : (h : OpSet) → AllLawful h → (s : Stamp) → greatest_counter_of h < s.counter → (key : Key) (v : ℕ) → setting_of (with_op h (Set s key v)) key ≡ Some v
setting_new h lawful s newest key v =
    same_setting (with_op h (Set s key v)) key (setting_of (with_op h (Set s key v)) key) (Some v) (is_setting (with_op h (Set s key v)) key)
    (s, (own_clear h (Set s key v) (fresh h lawful (Set s key v) newest), tt), λ t n l. older t n (clear_new h (Set s key v) (fresh h lawful (Set s key v) newest) (Set t key n) l.0))
  where
    older : (t : Stamp) (n : ℕ) → (Set s key v ≡ Set t key n) ⊎ IsClearOp h (Set t key n) → (t ≡ s) ⊎ (before t s ≡ true)
    older t n (inl e) = inl (sym (ap stamp_of e))
    older t n (inr c) = let w : t.counter ≤ greatest_counter_of h = counter_within h (Set t key n) c.0 in inr (counter-before t s (omega arith))
