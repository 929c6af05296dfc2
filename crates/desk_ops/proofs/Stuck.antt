-- A stamp has a fault exactly where it is forked, or its operation is stuck.
use Rattle.std.proofs.Common.{◌≡◌, true, false, List, [], ◌∷◌, refl, sym, ap, ◌∙◌, subst, ◌⊎◌, inl, inr, Some}
use Rattle.std.specs.Option.{unwrap_or}
use Rattle.std.proofs.lemmas.Bool.{true≢false}
use Rattle.desk_ops.specs.declared.op.Stamp.{Stamp}
use Rattle.desk_ops.specs.declared.op.Op.{Op}
use Rattle.desk_ops.specs.declared.op.Op.TheVariants.{Insert, Delete, Set}
use Rattle.desk_ops.specs.declared.fault.FaultKind.{FaultKind}
use Rattle.desk_ops.specs.declared.fault.FaultKind.TheVariants.{Forked, Void, Waiting}
use Rattle.desk_ops.specs.declared.fault.CopyFault.{CopyFault}
use Rattle.desk_ops.specs.Stamp.{same, head}
use Rattle.desk_ops.specs.Op.{stamp_of, target_of, IsLawful}
use Rattle.desk_ops.specs.OpSet.{OpSet, in_order, AllLawful}
use Rattle.desk_ops.specs.Lists.{Among}
use Rattle.desk_ops.specs.Held.{bears, bearing, is_one, is_more, is_clear, is_forked, is_borne, end_of}
use Rattle.desk_ops.specs.Live.{IsClearOp, IsOfLiveInsert, IsLiveOp}
use Rattle.desk_ops.specs.Faults.{stamps, fault_of, fault_of_end, fault_among, faults_of, IsStuck, HasFault}
use Rattle.desk_ops.proofs.Stamps.{same-true, same-from, by_cases}
use Rattle.desk_ops.proofs.Lists.{each-among, among-filter, among-filter_from}
use Rattle.desk_ops.proofs.Means.{not-head}
use Rattle.desk_ops.proofs.Ends.{among_held, held_among, live_from_end, end_from_live}
use Rattle.desk_ops.proofs.Faulty.{none-some, ends, ends_one, among-stamps_from, fault_at, among-faults, among-faults_from, end_head, end_borne, end_bare}

module _ (h : OpSet) (lawful : AllLawful h) where
  -- the operation's way, from its target on, does not end at the head
  stuck_from : (o : Op) (s u : Stamp) → stamp_of o ≡ s → IsClearOp h o → target_of o ≡ Some u → (IsLiveOp h o → end_of (in_order h) u ≡ head) → same (end_of (in_order h) u) head ≡ false → IsStuck h s (end_of (in_order h) u)
  stuck_from o s u b c t live e = record {
    op = o;
    bears = b;
    clear = c;
    not_live = λ l. true≢false (sym (same-from (end_of (in_order h) u) head (live l)) ∙ e);
    target = u;
    targets = t;
    ends = ends h lawful u;
  }

  -- from the fault that the end says
  from_end : (o : Op) (s u : Stamp) (k : FaultKind) → stamp_of o ≡ s → IsClearOp h o → target_of o ≡ Some u → (IsLiveOp h o → end_of (in_order h) u ≡ head) → fault_of_end (in_order h) (end_of (in_order h) u) ≡ Some k → HasFault h s k
  from_end o s u k b c t live f =
      by_cases (same (end_of (in_order h) u) head)
      (λ e. none-some k (sym (end_head (in_order h) (end_of (in_order h) u) e) ∙ f))
      (λ e. by_cases (is_borne (in_order h) (end_of (in_order h) u))
      (λ i. subst (HasFault h s) (ap (λ r. unwrap_or r k) (sym (end_borne (in_order h) (end_of (in_order h) u) e i) ∙ f)) (end_of (in_order h) u, stuck_from o s u b c t live e, i))
      (λ i. subst (HasFault h s) (ap (λ r. unwrap_or r k) (sym (end_bare (in_order h) (end_of (in_order h) u) e i) ∙ f)) (end_of (in_order h) u, stuck_from o s u b c t live e, i)))

  from_op : (o : Op) (s : Stamp) (k : FaultKind) → stamp_of o ≡ s → IsClearOp h o → fault_of (in_order h) o ≡ Some k → HasFault h s k
  from_op (Insert t p y) s k b c f = from_end (Insert t p y) s p k b c refl (λ l. end_from_live h lawful p l.1) f
  from_op (Delete t u) s k b c f = from_end (Delete t u) s u k b c refl (λ l. end_from_live h lawful u (inr l.1)) f
  from_op (Set t key v) s k b c f = none-some k f

  pub has_fault : (s : Stamp) (k : FaultKind) → fault_at (in_order h) s ≡ Some k → HasFault h s k
  unfolding is_clear is_forked
  has_fault s k f = go (bearing (in_order h) s) refl f
    where
      go : (os : List Op) → bearing (in_order h) s ≡ os → fault_among (in_order h) os ≡ Some k → HasFault h s k
      go [] e f = none-some k f
      go (o ∷ []) e f =
          let m : Among o (bearing (in_order h) s) = subst (Among o) (sym e) (inl refl) in
          let q = among-filter (bears s) (in_order h) o m in
          let b : stamp_of o ≡ s = same-true (stamp_of o) s q.1 in
          from_op o s k b (held_among h o q.0, subst (λ t. is_one (bearing (in_order h) t) ≡ true) (sym b) (ap is_one e)) f
      go (o ∷ p ∷ os) e f = subst (HasFault h s) (ap (λ r. unwrap_or r k) f) (ap is_more e)

  -- ---- and back

  one_bearer : (o : Op) (s : Stamp) → stamp_of o ≡ s → IsClearOp h o → bearing (in_order h) s ≡ o ∷ []
  unfolding is_clear
  one_bearer o s b c = go (bearing (in_order h) s) (subst (λ t. is_one (bearing (in_order h) t) ≡ true) b c.1) (among-filter_from (bears s) (in_order h) o (among_held h o c.0) (same-from (stamp_of o) s b))
    where
      go : (os : List Op) → is_one os ≡ true → Among o os → os ≡ o ∷ []
      go [] e m = absurd m
      go (p ∷ []) e (inl i) = ap (λ q. q ∷ []) i
      go (p ∷ []) e (inr m) = absurd m
      go (p ∷ q ∷ os) e m = absurd (true≢false (sym e))

  stuck_end : (o : Op) (u t : Stamp) → IsClearOp h o → (IsLiveOp h o → ⊥) → target_of o ≡ Some u → end_of (in_order h) u ≡ t → (same t head ≡ false) × (fault_of (in_order h) o ≡ fault_of_end (in_order h) t)
  stuck_end (Insert s p y) u t c dead is e =
      let i : p ≡ u = ap (λ r. unwrap_or r u) is in (
        by_cases (same t head) (λ k. absurd (dead (c, live_from_end h lawful p (ap (end_of (in_order h)) i ∙ e ∙ same-true t head k)))) (λ k. k),
        ap (fault_of_end (in_order h)) (ap (end_of (in_order h)) i ∙ e),
      )
  stuck_end (Delete s p) u t c dead is e =
      let i : p ≡ u = ap (λ r. unwrap_or r u) is in (
        by_cases (same t head) (λ k. absurd (go (live_from_end h lawful p (ap (end_of (in_order h)) i ∙ e ∙ same-true t head k)))) (λ k. k),
        ap (fault_of_end (in_order h)) (ap (end_of (in_order h)) i ∙ e),
      )
    where
      own : IsLawful (Delete s p)
      own = each-among IsLawful (in_order h) (Delete s p) lawful (among_held h (Delete s p) c.0)

      go : (p ≡ head) ⊎ IsOfLiveInsert h p → ⊥
      go (inl k) = true≢false (sym (same-from p head k) ∙ not-head p own.1)
      go (inr l) = dead (c, l)
  stuck_end (Set s k v) u t c dead is e = none-some u is

  at_stuck : (s t : Stamp) (d : IsStuck h s t) → (same t head ≡ false) × (fault_at (in_order h) s ≡ fault_of_end (in_order h) t)
  at_stuck s t d =
      let r = stuck_end d.op d.target t d.clear d.not_live d.targets (ends_one h lawful t d.target d.ends) in
      (r.0, ap (fault_among (in_order h)) (one_bearer d.op s d.bears d.clear) ∙ r.1)

  borne_stamp : (s t : Stamp) → IsStuck h s t → Among s (stamps (in_order h))
  borne_stamp s t d = subst (λ u. Among u (stamps (in_order h))) d.bears (among-stamps_from (in_order h) d.op (among_held h d.op d.clear.0))

  pub of_fault : (s : Stamp) (k : FaultKind) → HasFault h s k → Among s (stamps (in_order h)) × (fault_at (in_order h) s ≡ Some k)
  unfolding is_forked
  of_fault s Forked f = go (bearing (in_order h) s) refl f
    where
      go : (os : List Op) → bearing (in_order h) s ≡ os → is_more os ≡ true → Among s (stamps (in_order h)) × (fault_at (in_order h) s ≡ Some Forked)
      go [] e m = absurd (true≢false (sym m))
      go (o ∷ []) e m = absurd (true≢false (sym m))
      go (o ∷ p ∷ os) e m =
          let q = among-filter (bears s) (in_order h) o (subst (Among o) (sym e) (inl refl)) in
          (subst (λ t. Among t (stamps (in_order h))) (same-true (stamp_of o) s q.1) (among-stamps_from (in_order h) o q.0), ap (fault_among (in_order h)) e)
  of_fault s Void f = let r = at_stuck s f.0 f.1 in (borne_stamp s f.0 f.1, r.1 ∙ end_borne (in_order h) f.0 r.0 f.2)
  of_fault s Waiting f = let r = at_stuck s f.0 f.1 in (borne_stamp s f.0 f.1, r.1 ∙ end_bare (in_order h) f.0 r.0 f.2)

  pub fault_listed : (f : CopyFault) → Among f (faults_of h) → HasFault h f.stamp f.kind
  fault_listed f m = has_fault f.stamp f.kind (among-faults (in_order h) f m).1

  pub listed_fault : (f : CopyFault) → HasFault h f.stamp f.kind → Among f (faults_of h)
  listed_fault f k = let r = of_fault f.stamp f.kind k in among-faults_from (in_order h) f r.0 r.1
