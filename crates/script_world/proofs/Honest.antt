-- Honest worlds stay honest.
use Rattle.std.proofs.Common.{◌≡◌, ℕ, ◌+◌, ◌≤◌, true, sym, ap, ◌∙◌, subst, ◌⊎◌, inl, inr, Some, arith}
use Rattle.std.specs.FinMap as fin
use Rattle.std.specs.Option.{unwrap_or}
use Rattle.desk_ops.specs.declared.op.Stamp.{Stamp}
use Rattle.desk_ops.specs.declared.op.Op.{Op}
use Rattle.desk_ops.specs.Stamp.{head}
use Rattle.desk_ops.specs.Op.{stamp_of, target_of, IsLawful}
use Rattle.desk_ops.specs.OpSet.{OpSet, has_op, with_op, in_order, IsWithin, AllLawful}
use Rattle.desk_ops.specs.Lists.{Among}
use Rattle.desk_ops.specs.Held.{greatest_counter_of, IsUnforked}
use Rattle.desk_ops.specs.Live.{IsOfLiveInsert}
use Rattle.desk_ops.proofs.Joined.{same_bool, has_op-with_op_own, within-with_op, lawful-with_op}
use Rattle.desk_ops.proofs.Arrive.{among-with_op}
use Rattle.desk_ops.proofs.Ends.{among_held, held_among}
use Rattle.desk_ops.proofs.Bearers.{counter_within}
use Rattle.desk_ops.proofs.Unions.{same-set}
use Rattle.desk_ops.proofs.Parts.{unforked_one, one_unforked, target_within}
use Rattle.script_world.specs.Sites.{Sites}
use Rattle.script_world.specs.Honest.{all_ops, IsHeldAt, IsHonest}
use Rattle.script_world.proofs.Members.{at_all, all_at, all_lawful, held_new, held_kept, held_was, get_was}

abbrev pub EachLawful : Sites → Type 0
EachLawful sites = (n : ℕ) (set : OpSet) → fin.get sites n ≡ Some set → AllLawful set

-- ---- a site's set replaced by one that holds all of it, and else what some site held

pub honest_gained : (old : Sites) (n : ℕ) (after : OpSet) → IsHonest old → ((set : OpSet) → fin.get old n ≡ Some set → IsWithin set after) → ((op : Op) → has_op after op ≡ true → has_op (all_ops old) op ≡ true)
    → IsHonest (fin.insert old n after)
honest_gained old n after honest keeps from = record {
  unforked = subst IsUnforked one honest.unforked;
  targets = λ op t k e. subst (λ u. (t ≡ head) ⊎ IsOfLiveInsert u t) one (honest.targets op t (down op k) e);
  own = λ op k. up op (stamp_of op).site (honest.own op (down op k));
}
  where
    up : (op : Op) (m : ℕ) → IsHeldAt old m op → IsHeldAt (fin.insert old n after) m op
    up op = held_kept old n after op (λ set at. keeps set at op)

    down : (op : Op) → has_op (all_ops (fin.insert old n after)) op ≡ true → has_op (all_ops old) op ≡ true
    down op k = go (all_at (fin.insert old n after) op k)
      where
        which : (m : ℕ) → (has_op after op ≡ true) ⊎ IsHeldAt old m op → has_op (all_ops old) op ≡ true
        which m (inl a) = from op a
        which m (inr h) = at_all old m op h

        go : (m : ℕ) × IsHeldAt (fin.insert old n after) m op → has_op (all_ops old) op ≡ true
        go r = which r.0 (held_was old n after op r.0 r.1)

    rise : (op : Op) → has_op (all_ops old) op ≡ true → has_op (all_ops (fin.insert old n after)) op ≡ true
    rise op k = go (all_at old op k)
      where
        go : (m : ℕ) × IsHeldAt old m op → has_op (all_ops (fin.insert old n after)) op ≡ true
        go r = at_all (fin.insert old n after) r.0 op (up op r.0 r.1)

    one : all_ops old ≡ all_ops (fin.insert old n after)
    one = same-set (all_ops old) (all_ops (fin.insert old n after)) (λ op. same_bool (has_op (all_ops old) op) (has_op (all_ops (fin.insert old n after)) op) (rise op) (down op))

-- ---- an operation made at a site

pub honest_made : (old : Sites) (n : ℕ) (h : OpSet) (op : Op) → IsHonest old → EachLawful old → fin.get old n ≡ Some h → stamp_of op ≡ record { counter = greatest_counter_of h + 1; site = n } → IsLawful op
    → ((t : Stamp) → target_of op ≡ Some t → (t ≡ head) ⊎ IsOfLiveInsert h t) → IsHonest (fin.insert old n (with_op h op))
honest_made old n h op honest lawful at stamp own target = record {
  unforked = apart;
  targets = λ o t k e. hangs o t e (was o k);
  own = λ o k. site o (was o k);
}
  where
    new : Sites
    new = fin.insert old n (with_op h op)

    keeps : (o : Op) (set : OpSet) → fin.get old n ≡ Some set → has_op set o ≡ true → has_op (with_op h op) o ≡ true
    keeps o set e k = within-with_op h op o (ap (λ r. has_op (unwrap_or r h) o) (sym at ∙ e) ∙ k)

    up : (o : Op) (m : ℕ) → IsHeldAt old m o → IsHeldAt new m o
    up o = held_kept old n (with_op h op) o (keeps o)

    rise : IsWithin (all_ops old) (all_ops new)
    rise o k = go (all_at old o k)
      where
        go : (m : ℕ) × IsHeldAt old m o → has_op (all_ops new) o ≡ true
        go r = at_all new r.0 o (up o r.0 r.1)

    part : IsWithin h (all_ops old)
    part o k = at_all old n o (h, at, k)

    -- what some site holds is new, or some site held it
    was : (o : Op) → has_op (all_ops new) o ≡ true → (op ≡ o) ⊎ (has_op (all_ops old) o ≡ true)
    was o k = go (all_at new o k)
      where
        here : (op ≡ o) ⊎ Among o (in_order h) → (op ≡ o) ⊎ (has_op (all_ops old) o ≡ true)
        here (inl e) = inl e
        here (inr m) = inr (part o (held_among h o m))

        which : (m : ℕ) → (has_op (with_op h op) o ≡ true) ⊎ IsHeldAt old m o → (op ≡ o) ⊎ (has_op (all_ops old) o ≡ true)
        which m (inl a) = here (among-with_op h op o (among_held (with_op h op) o a))
        which m (inr r) = inr (at_all old m o r)

        go : (m : ℕ) × IsHeldAt new m o → (op ≡ o) ⊎ (has_op (all_ops old) o ≡ true)
        go r = which r.0 (held_was old n (with_op h op) o r.0 r.1)

    -- no site held an operation of its stamp: its own site would, and the counter is greater than all there
    fresh : (o : Op) → has_op (all_ops old) o ≡ true → stamp_of o ≡ stamp_of op → ⊥
    fresh o k e = go (honest.own o k)
      where
        number : (stamp_of o).site ≡ n
        number = ap (λ (s : Stamp). s.site) (e ∙ stamp)

        count : (stamp_of o).counter ≡ greatest_counter_of h + 1
        count = ap (λ (s : Stamp). s.counter) (e ∙ stamp)

        go : IsHeldAt old (stamp_of o).site o → ⊥
        go r =
            let there : has_op h o ≡ true = ap (λ r. has_op (unwrap_or r h) o) (sym at ∙ ap (fin.get old) (sym number) ∙ r.1) ∙ r.2 in
            let within : (stamp_of o).counter ≤ greatest_counter_of h = counter_within h o there in
            omega (arith, within, count)

    apart : IsUnforked (all_ops new)
    apart = one_unforked (all_ops new) (λ o p m k e. pair o p e (was o m) (was p k))
      where
        pair : (o p : Op) → stamp_of o ≡ stamp_of p → (op ≡ o) ⊎ (has_op (all_ops old) o ≡ true) → (op ≡ p) ⊎ (has_op (all_ops old) p ≡ true) → o ≡ p
        pair o p e (inl i) (inl j) = sym i ∙ j
        pair o p e (inl i) (inr k) = absurd (fresh p k (sym e ∙ ap stamp_of (sym i)))
        pair o p e (inr k) (inl j) = absurd (fresh o k (e ∙ ap stamp_of (sym j)))
        pair o p e (inr m) (inr k) = unforked_one (all_ops old) honest.unforked o p m k e

    all : AllLawful (all_ops old)
    all = all_lawful old lawful

    lawful_new : EachLawful new
    lawful_new m set e = go (get_was old n (with_op h op) m set e)
      where
        go : (with_op h op ≡ set) ⊎ (fin.get old m ≡ Some set) → AllLawful set
        go (inl i) = subst AllLawful i (lawful-with_op h op (lawful n h at) own)
        go (inr k) = lawful m set k

    site : (o : Op) → (op ≡ o) ⊎ (has_op (all_ops old) o ≡ true) → IsHeldAt new (stamp_of o).site o
    site o (inl i) = subst (λ (p : Op). IsHeldAt new (stamp_of p).site p) i (subst (λ (m : ℕ). IsHeldAt new m op) (sym (ap (λ (s : Stamp). s.site) stamp)) (held_new old n (with_op h op) op (has_op-with_op_own h op)))
    site o (inr k) = up o (stamp_of o).site (honest.own o k)

    hangs : (o : Op) (t : Stamp) → target_of o ≡ Some t → (op ≡ o) ⊎ (has_op (all_ops old) o ≡ true) → (t ≡ head) ⊎ IsOfLiveInsert (all_ops new) t
    hangs o t e (inl i) = target_within h (all_ops new) (lawful n h at) (all_lawful new lawful_new) apart (λ q k. rise q (part q k)) t (target t (ap target_of i ∙ e))
    hangs o t e (inr k) = target_within (all_ops old) (all_ops new) all (all_lawful new lawful_new) apart rise t (honest.targets o t k e)
