-- A copy has no fault exactly where nothing waits and no stamp is forked.
use Rattle.std.proofs.Common.{◌≡◌, true, false, List, [], ◌∷◌, length, refl, sym, ◌∙◌, subst, inl}
use Rattle.std.specs.Prelude.{◌↔◌}
use Rattle.desk_ops.specs.declared.op.Stamp.{Stamp}
use Rattle.desk_ops.specs.declared.op.Op.{Op}
use Rattle.desk_ops.specs.declared.op.Op.TheVariants.{Insert, Delete, Set}
use Rattle.desk_ops.specs.declared.fault.FaultKind.{FaultKind}
use Rattle.desk_ops.specs.declared.fault.FaultKind.TheVariants.{Forked, Void, Waiting}
use Rattle.desk_ops.specs.declared.fault.CopyFault.{CopyFault}
use Rattle.desk_ops.specs.Op.{stamp_of}
use Rattle.desk_ops.specs.OpSet.{OpSet, has_op, in_order, size, AllLawful}
use Rattle.desk_ops.specs.Lists.{Among}
use Rattle.desk_ops.specs.Held.{end_of, is_forked, is_forked_in, is_borne_in, IsUnforked}
use Rattle.desk_ops.specs.Faults.{faults_of, IsStuck, HasFault}
use Rattle.desk_ops.proofs.Stamps.{by_cases}
use Rattle.desk_ops.proofs.Lists.{each-from_among}
use Rattle.desk_ops.proofs.Ends.{among_held, held_among}
use Rattle.desk_ops.proofs.Faulty.{ends}
use Rattle.desk_ops.proofs.Stuck.{fault_listed, listed_fault}
use Rattle.desk_ops.proofs.Bearers.{forked_two}
use Rattle.desk_ops.proofs.Parts.{unforked_one}
use Rattle.desk_ops.proofs.OpSets.{length-in_order}
use Rattle.desk_walk.specs.Following.{IsWaiting}

nothing : (fs : List CopyFault) → ((f : CopyFault) → Among f fs → ⊥) → fs ≡ []
nothing [] none = refl
nothing (f ∷ fs) none = absurd (none f (inl refl))

one_more : (ops : List Op) (o : Op) → Among o ops → length ops ≡ 0 → ⊥
one_more [] o m e = m
one_more (p ∷ ops) o m e = cc

module _ (h : OpSet) (lawful : AllLawful h) (waiting : OpSet) (waits : (o : Op) → (has_op waiting o ≡ true) ↔ IsWaiting h o) where
  stuck_waits : (s t : Stamp) → IsStuck h s t → size waiting ≡ 0 → ⊥
  stuck_waits s t d e = one_more (in_order waiting) d.op (among_held waiting d.op ((waits d.op).1 (record { clear = d.clear; not_live = d.not_live }))) (length-in_order waiting ∙ e)

  pub faultless : size waiting ≡ 0 → IsUnforked h → faults_of h ≡ []
  faultless none u = nothing (faults_of h) (λ f m. go f.stamp f.kind (fault_listed h lawful f m))
    where
      go : (s : Stamp) (k : FaultKind) → HasFault h s k → ⊥
      go s Forked e = let r = forked_two h s e in r.6 (unforked_one h u r.0 r.1 r.2 r.3 (r.4 ∙ sym r.5))
      go s Void r = stuck_waits s r.0 r.1 none
      go s Waiting r = stuck_waits s r.0 r.1 none

  -- ---- and the other way round

  has_none : faults_of h ≡ [] → (s : Stamp) (k : FaultKind) → HasFault h s k → ⊥
  has_none e s k f = subst (Among (record { stamp = s; kind = k })) e (listed_fault h lawful (record { stamp = s; kind = k }) f)

  stuck : (s t : Stamp) → faults_of h ≡ [] → IsStuck h s t → ⊥
  stuck s t e d = by_cases (is_borne_in h t) (λ b. has_none e s Void (t, d, b)) (λ b. has_none e s Waiting (t, d, b))

  not_waiting : faults_of h ≡ [] → (o : Op) → IsWaiting h o → ⊥
  not_waiting e (Insert s p y) w = stuck s (end_of (in_order h) p) e (record { op = Insert s p y; bears = refl; clear = w.clear; not_live = w.not_live; target = p; targets = refl; ends = ends h lawful p })
  not_waiting e (Delete s t) w = stuck s (end_of (in_order h) t) e (record { op = Delete s t; bears = refl; clear = w.clear; not_live = w.not_live; target = t; targets = refl; ends = ends h lawful t })
  not_waiting e (Set s k v) w = w.not_live (w.clear, tt)

  pub none_waits : faults_of h ≡ [] → size waiting ≡ 0
  none_waits e = sym (length-in_order waiting) ∙ go (in_order waiting) refl
    where
      go : (os : List Op) → in_order waiting ≡ os → length os ≡ 0
      go [] i = refl
      go (o ∷ os) i = absurd (not_waiting e o ((waits o).0 (held_among waiting o (subst (Among o) (sym i) (inl refl)))))

  pub none_forks : faults_of h ≡ [] → IsUnforked h
  none_forks e = each-from_among (λ o. is_forked (in_order h) (stamp_of o) ≡ false) (in_order h) (λ o m. by_cases (is_forked_in h (stamp_of o)) (λ f. absurd (has_none e (stamp_of o) Forked f)) (λ f. f))
