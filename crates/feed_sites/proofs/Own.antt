-- A set that one site makes from nothing, edit after edit, has no copy fault.
use Rattle.std.proofs.Common.{◌≡◌, ℕ, ◌+◌, ◌≤◌, true, false, cond, List, [], ◌∷◌, refl, sym, ap, ◌∙◌, ◌⊎◌, inl, inr, Some, arith}
use Rattle.std.specs.FinMap as fin
use Rattle.std.proofs.lemmas.Bool.{true≢false}
use Rattle.desk_ops.specs.declared.op.Stamp.{Stamp}
use Rattle.desk_ops.specs.declared.op.Op.{Op}
use Rattle.desk_ops.specs.declared.fault.CopyFault.{CopyFault}
use Rattle.desk_ops.specs.Stamp.{head}
use Rattle.desk_ops.specs.Op.{stamp_of, target_of, IsLawful}
use Rattle.desk_ops.specs.OpSet.{OpSet, no_ops, has_op, with_op, size, AllLawful}
use Rattle.desk_ops.specs.Lists.{Among}
use Rattle.desk_ops.specs.Held.{is_borne_in, IsUnforked, greatest_counter_of}
use Rattle.desk_ops.specs.Live.{IsOfLiveInsert}
use Rattle.desk_ops.specs.Faults.{faults_of}
use Rattle.desk_ops.proofs.OpSets.{none-held, none-lawful}
use Rattle.desk_ops.proofs.Stamps.{by_cases}
use Rattle.desk_ops.proofs.Unions.{size-with_op}
use Rattle.desk_ops.proofs.Joined.{has_op-with_op_own, with-cases, within-with_op, lawful-with_op}
use Rattle.desk_ops.proofs.Bearers.{above_unborne, counter_reached, counter_within}
use Rattle.desk_ops.proofs.Parts.{one_unforked, target_within, unforked_one, whole}
use Rattle.feed_sites.specs.Anew.{IsOwn}

none_left : (faults : List CopyFault) → ((fault : CopyFault) → Among fault faults → ⊥) → faults ≡ []
none_left [] none = refl
none_left (fault ∷ faults) none = absurd (none fault (inl refl))

-- no fault
pub own_faultless : (site : ℕ) (set : OpSet) → IsOwn site set → faults_of set ≡ []
own_faultless site set own = none_left (faults_of set) (whole set set own.lawful own.lawful own.unforked (λ op held. held) own.targets (λ op held. held))

-- ---- nothing

pub no_op : {B : Type 0} (op : Op) → has_op no_ops op ≡ true → B
no_op op held = absurd (true≢false (sym held ∙ none-held op))

none_counted : greatest_counter_of no_ops ≡ 0
none_counted = go (counter_reached no_ops)
  where
    go : (greatest_counter_of no_ops ≡ 0) ⊎ ((op : Op) × (has_op no_ops op ≡ true) × ((stamp_of op).counter ≡ greatest_counter_of no_ops)) → greatest_counter_of no_ops ≡ 0
    go (inl zero) = zero
    go (inr reached) = no_op reached.0 reached.1

pub none_sized : size no_ops ≡ 0
none_sized = fin.len-empty _ _

pub own_none : (site : ℕ) → IsOwn site no_ops
own_none site = record {
  lawful = none-lawful;
  by_site = λ op held. no_op op held;
  unforked = one_unforked no_ops (λ op other held also same. no_op op held);
  targets = λ op target held is. no_op op held;
  counters = none_counted ∙ sym none_sized;
}

-- ---- one operation more

module _ (site : ℕ) (set : OpSet) (op : Op) (own : IsOwn site set) (stamp : stamp_of op ≡ record { counter = greatest_counter_of set + 1; site = site }) where
  counter : (stamp_of op).counter ≡ greatest_counter_of set + 1
  counter = ap (λ (s : Stamp). s.counter) stamp

  -- no operation that is held bears its stamp
  apart : (other : Op) → has_op set other ≡ true → stamp_of other ≡ stamp_of op → ⊥
  apart other held same =
      let within : (stamp_of other).counter ≤ greatest_counter_of set = counter_within set other held in
      let c : (stamp_of other).counter ≡ greatest_counter_of set + 1 = ap (λ (s : Stamp). s.counter) same ∙ counter in
      omega (arith, within, c)

  pub strange : has_op set op ≡ false
  strange = by_cases (has_op set op) (λ held. absurd (apart op held refl)) (λ none. none)

  pub size_more : size (with_op set op) ≡ size set + 1
  size_more = size-with_op set op ∙ ap (λ b. cond b (size set) (size set + 1)) strange

  counter_more : greatest_counter_of (with_op set op) ≡ greatest_counter_of set + 1
  counter_more = go (counter_reached (with_op set op))
    where
      least : greatest_counter_of set + 1 ≤ greatest_counter_of (with_op set op)
      least =
          let within : (stamp_of op).counter ≤ greatest_counter_of (with_op set op) = counter_within (with_op set op) op (has_op-with_op_own set op) in
          let c = counter in
          omega (arith, within, c)

      most : (other : Op) → (stamp_of other).counter ≡ greatest_counter_of (with_op set op) → (op ≡ other) ⊎ (has_op set other ≡ true) → greatest_counter_of (with_op set op) ≡ greatest_counter_of set + 1
      most other is (inl same) = sym is ∙ ap (λ o. (stamp_of o).counter) (sym same) ∙ counter
      most other is (inr held) =
          let within : (stamp_of other).counter ≤ greatest_counter_of set = counter_within set other held in
          let l = least in
          absurd (omega (arith, within, is, l))

      go : (greatest_counter_of (with_op set op) ≡ 0) ⊎ ((other : Op) × (has_op (with_op set op) other ≡ true) × ((stamp_of other).counter ≡ greatest_counter_of (with_op set op)))
          → greatest_counter_of (with_op set op) ≡ greatest_counter_of set + 1
      go (inl zero) = let l = least in absurd (omega (arith, zero, l))
      go (inr reached) = most reached.0 reached.2 (with-cases set op reached.0 reached.1)

  module _ (lawful : IsLawful op) (hangs : (target : Stamp) → target_of op ≡ Some target → (target ≡ head) ⊎ IsOfLiveInsert set target) where
    all : AllLawful (with_op set op)
    all = lawful-with_op set op own.lawful lawful

    unforked : IsUnforked (with_op set op)
    unforked = one_unforked (with_op set op) (λ one other held also same. pair one other same (with-cases set op one held) (with-cases set op other also))
      where
        pair : (one other : Op) → stamp_of one ≡ stamp_of other → (op ≡ one) ⊎ (has_op set one ≡ true) → (op ≡ other) ⊎ (has_op set other ≡ true) → one ≡ other
        pair one other same (inl i) (inl j) = sym i ∙ j
        pair one other same (inl i) (inr held) = absurd (apart other held (sym same ∙ ap stamp_of (sym i)))
        pair one other same (inr held) (inl j) = absurd (apart one held (same ∙ ap stamp_of (sym j)))
        pair one other same (inr held) (inr also) = unforked_one set own.unforked one other held also same

    pub own_more : IsOwn site (with_op set op)
    own_more = record {
      lawful = all;
      by_site = λ other held. by other (with-cases set op other held);
      unforked = unforked;
      targets = λ other target held is. target_within set (with_op set op) own.lawful all unforked (within-with_op set op) target (hang other target is (with-cases set op other held));
      counters = counter_more ∙ ap (λ n. n + 1) own.counters ∙ sym size_more;
    }
      where
        by : (other : Op) → (op ≡ other) ⊎ (has_op set other ≡ true) → (stamp_of other).site ≡ site
        by other (inl same) = ap (λ o. (stamp_of o).site) (sym same) ∙ ap (λ (s : Stamp). s.site) stamp
        by other (inr held) = own.by_site other held

        hang : (other : Op) (target : Stamp) → target_of other ≡ Some target → (op ≡ other) ⊎ (has_op set other ≡ true) → (target ≡ head) ⊎ IsOfLiveInsert set target
        hang other target is (inl same) = hangs target (ap target_of same ∙ is)
        hang other target is (inr held) = own.targets other target held is
