-- The faults of a set: by where ways end, one per stamp, in stamp order.
use Rattle.std.proofs.Common.{◌≡◌, ℕ, zero, suc, ◌<◌, Bool, true, false, not, cond, List, [], ◌∷◌, reverse, refl, sym, ap, ◌∙◌, subst, ◌⊎◌, inl, inr, Option, Some, None, arith}
use Rattle.std.specs.List.{filter, filter_map, cons_option}
use Rattle.std.specs.Option.{is_some, unwrap_or}
use Rattle.std.specs.Ordering.{ordering_then, is_eq, is_lt, nat_cmp}
use Rattle.std.specs.Cmp.Lexicographic.{slice_cmp}
use Rattle.std.specs.declared.cmp.Ordering.{Ordering}
use Rattle.std.specs.declared.cmp.Ordering.TheVariants.{Less, Equal, Greater}
use Rattle.std.proofs.lemmas.Bool.{true≢false, not-true}
use Rattle.desk_ops.specs.declared.op.Stamp.{Stamp}
use Rattle.desk_ops.specs.declared.op.Op.{Op}
use Rattle.desk_ops.specs.declared.fault.FaultKind.{FaultKind}
use Rattle.desk_ops.specs.declared.fault.FaultKind.TheVariants.{Void, Waiting}
use Rattle.desk_ops.specs.declared.fault.CopyFault.{CopyFault}
use Rattle.desk_ops.specs.Stamp.{stamp_cmp, same, before, head}
use Rattle.desk_ops.specs.Op.{stamp_of, Insertion}
use Rattle.desk_ops.specs.Order.{op_cmp, rest_of}
use Rattle.desk_ops.specs.OpSet.{OpSet, in_order, AllLawful}
use Rattle.desk_ops.specs.Lists.{Among}
use Rattle.desk_ops.specs.Held.{bearing, is_borne, clear_inserts, end_of}
use Rattle.desk_ops.specs.Faults.{stamps, fault_of_end, fault_among, marked, copy_faults, faults_of, EndsAt, stops, goes, IsByStamp}
use Rattle.desk_ops.proofs.Stamps.{same-true, same-from, same-symm, same-cmp, by_cases}
use Rattle.desk_ops.proofs.Lists.{Each, each-among, each-from_among, each-filter, among-filter, among-filter_from, among-filter_map, among-filter_map_from}
use Rattle.desk_ops.proofs.Scans.{Absent}
use Rattle.desk_ops.proofs.Paths.{way-absent, Each-reverse}
use Rattle.desk_ops.proofs.Means.{IsOrdered, ordered, by_stamp}
use Rattle.desk_ops.proofs.Ends.{older, on}

pub none-some : {A B : Type 0} (x : A) → None ≡ Some x → B
none-some x e = absurd (true≢false (sym (ap is_some e)))

-- ---- where the ways end

bearer_or_none : (xs : List Insertion) (s : Stamp) → ((x : Insertion) × Among x xs × (x.stamp ≡ s)) ⊎ Absent s xs
bearer_or_none [] s = inr tt
bearer_or_none (x ∷ xs) s = by_cases (same x.stamp s) (λ k. inl (x, inl refl, same-true x.stamp s k)) (λ k. go k (bearer_or_none xs s))
  where
    go : same x.stamp s ≡ false → ((y : Insertion) × Among y xs × (y.stamp ≡ s)) ⊎ Absent s xs → ((y : Insertion) × Among y (x ∷ xs) × (y.stamp ≡ s)) ⊎ Absent s (x ∷ xs)
    go k (inl y) = inl (y.0, inr y.1, y.2)
    go k (inr a) = inr (k, a)

absent_none : (xs : List Insertion) (s : Stamp) → Absent s xs → (x : Insertion) → Among x xs → x.stamp ≡ s → ⊥
absent_none xs s a x m e = true≢false (sym (same-from x.stamp s e) ∙ each-among (λ y. same y.stamp s ≡ false) xs x a m)

none_absent : (xs : List Insertion) (s : Stamp) → ((x : Insertion) → Among x xs → x.stamp ≡ s → ⊥) → Absent s xs
none_absent xs s f = each-from_among (λ y. same y.stamp s ≡ false) xs (λ y m. by_cases (same y.stamp s) (λ k. absurd (f y m (same-true y.stamp s k))) (λ k. k))

end_absent : (h : OpSet) (s : Stamp) → Absent s (clear_inserts (in_order h)) → end_of (in_order h) s ≡ s
end_absent h s a = way-absent (reverse (clear_inserts (in_order h))) s (Each-reverse (λ x. same x.stamp s ≡ false) (clear_inserts (in_order h)) a)

module _ (h : OpSet) (lawful : AllLawful h) where
  ends_below : (n : ℕ) (s : Stamp) → s.counter < n → EndsAt h (end_of (in_order h) s) s
  ends_below zero s lt = absurd (omega arith)
  ends_below (suc n) s lt = go (bearer_or_none (clear_inserts (in_order h)) s) (λ p l. ends_below n p l)
    where
      go : ((x : Insertion) × Among x (clear_inserts (in_order h)) × (x.stamp ≡ s)) ⊎ Absent s (clear_inserts (in_order h)) → ((p : Stamp) → p.counter < n → EndsAt h (end_of (in_order h) p) p) → EndsAt h (end_of (in_order h) s) s
      go (inl y) rest =
          let o : y.0.parent.counter < y.0.stamp.counter = older h lawful y.0 y.1 in
          let e : y.0.stamp.counter ≡ s.counter = ap (λ (t : Stamp). t.counter) y.2 in
          subst (λ t. EndsAt h (end_of (in_order h) t) t) y.2 (subst (λ t. EndsAt h t y.0.stamp) (sym (on h lawful y.0 y.1)) (goes y.0 y.1 (rest y.0.parent (omega arith))))
      go (inr a) rest = subst (λ t. EndsAt h t s) (sym (end_absent h s a)) (stops (absent_none (clear_inserts (in_order h)) s a))

  pub ends : (s : Stamp) → EndsAt h (end_of (in_order h) s) s
  ends s = ends_below (suc s.counter) s (omega arith)

  pub ends_one : (t s : Stamp) → EndsAt h t s → end_of (in_order h) s ≡ t
  ends_one t s (stops f) = end_absent h t (none_absent (clear_inserts (in_order h)) t f)
  ends_one t s (goes x m e) = on h lawful x m ∙ ends_one t x.parent e

-- ---- each stamp once

pub among-stamps : (ops : List Op) (s : Stamp) → Among s (stamps ops) → (o : Op) × Among o ops × (stamp_of o ≡ s)
among-stamps [] s m = absurd m
among-stamps (o ∷ os) s (inl e) = (o, inl refl, e)
among-stamps (o ∷ os) s (inr m) = let r = among-stamps os s (among-filter (λ t. not (same t (stamp_of o))) (stamps os) s m).0 in (r.0, inr r.1, r.2)

pub among-stamps_from : (ops : List Op) (o : Op) → Among o ops → Among (stamp_of o) (stamps ops)
among-stamps_from [] o m = m
among-stamps_from (p ∷ os) o (inl e) = inl (ap stamp_of e)
among-stamps_from (p ∷ os) o (inr m) =
    by_cases (same (stamp_of o) (stamp_of p))
    (λ k. inl (sym (same-true (stamp_of o) (stamp_of p) k)))
    (λ k. inr (among-filter_from (λ t. not (same t (stamp_of p))) (stamps os) (stamp_of o) (among-stamps_from os o m) (ap not k)))

-- each is greater than those before it
abbrev Rises : List Stamp → Type 0
Rises [] = Unit {0}
Rises (s ∷ ss) = Each (λ t. before s t ≡ true) ss × Rises ss

rises_filter : (p : Stamp → Bool) (ss : List Stamp) → Rises ss → Rises (filter p ss)
rises_filter p [] h = tt
rises_filter p (s ∷ ss) h = elim (p s) as (λ b. Rises (cond b (s ∷ filter p ss) (filter p ss))) [ true ↦ (each-filter (λ t. before s t ≡ true) p ss h.0, rises_filter p ss h.1) | false ↦ rises_filter p ss h.1 ]

-- of two operations in order, the stamp of the second is greater or the same
stamp_after : (o p : Op) → op_cmp o p ≡ Less → same (stamp_of p) (stamp_of o) ≡ false → before (stamp_of o) (stamp_of p) ≡ true
unfolding before
stamp_after o p l ne = go (stamp_cmp (stamp_of o) (stamp_of p)) refl (sym (by_stamp o p) ∙ l)
  where
    go : (r : Ordering) → stamp_cmp (stamp_of o) (stamp_of p) ≡ r → ordering_then r (slice_cmp nat_cmp (rest_of o) (rest_of p)) ≡ Less → is_lt (stamp_cmp (stamp_of o) (stamp_of p)) ≡ true
    go Less e k = ap is_lt e
    go Equal e k = absurd (true≢false (sym (sym (same-cmp (stamp_of o) (stamp_of p)) ∙ ap is_eq e) ∙ same-symm (stamp_of o) (stamp_of p) ∙ ne))
    go Greater e k = absurd (true≢false (sym (ap is_lt k)))

stamps_rise : (ops : List Op) → IsOrdered ops → Rises (stamps ops)
stamps_rise [] up = tt
stamps_rise (o ∷ os) up = (
  each-from_among (λ t. before (stamp_of o) t ≡ true) (filter (λ t. not (same t (stamp_of o))) (stamps os)) (λ t m. go t (among-filter (λ t. not (same t (stamp_of o))) (stamps os) t m)),
  rises_filter (λ t. not (same t (stamp_of o))) (stamps os) (stamps_rise os up.1),
)
  where
    go : (t : Stamp) → Among t (stamps os) × (not (same t (stamp_of o)) ≡ true) → before (stamp_of o) t ≡ true
    go t q = later (among-stamps os t q.0)
      where
        later : ((p : Op) × Among p os × (stamp_of p ≡ t)) → before (stamp_of o) t ≡ true
        later r = subst (λ u. before (stamp_of o) u ≡ true) r.2 (stamp_after o r.0 (each-among (λ p. op_cmp o p ≡ Less) os r.0 up.0 r.1) (subst (λ u. same u (stamp_of o) ≡ false) (sym r.2) (not-true (same t (stamp_of o)) q.1)))

-- ---- the list of faults

abbrev pub fault_at : List Op → Stamp → Option FaultKind
fault_at ops s = fault_among ops (bearing ops s)

marked_is : (s : Stamp) (r : Option FaultKind) (f : CopyFault) → marked s r ≡ Some f → (s ≡ f.stamp) × (r ≡ Some f.kind)
marked_is s None f e = none-some f e
marked_is s (Some k) f e = (ap (λ o. (unwrap_or o f).stamp) e, ap (λ o. Some (unwrap_or o f).kind) e)

pub among-faults : (ops : List Op) (f : CopyFault) → Among f (copy_faults ops) → Among f.stamp (stamps ops) × (fault_at ops f.stamp ≡ Some f.kind)
unfolding copy_faults
among-faults ops f m = go (among-filter_map (λ s. marked s (fault_at ops s)) (stamps ops) f m)
  where
    go : ((s : Stamp) × Among s (stamps ops) × (marked s (fault_at ops s) ≡ Some f)) → Among f.stamp (stamps ops) × (fault_at ops f.stamp ≡ Some f.kind)
    go r = let q = marked_is r.0 (fault_at ops r.0) f r.2 in (subst (λ s. Among s (stamps ops)) q.0 r.1, subst (λ s. fault_at ops s ≡ Some f.kind) q.0 q.1)

pub among-faults_from : (ops : List Op) (f : CopyFault) → Among f.stamp (stamps ops) → fault_at ops f.stamp ≡ Some f.kind → Among f (copy_faults ops)
unfolding copy_faults
among-faults_from ops f m e = among-filter_map_from (λ s. marked s (fault_at ops s)) (stamps ops) f.stamp f m (ap (marked f.stamp) e)

faults_rise : (ops : List Op) (ss : List Stamp) → Rises ss → IsByStamp (filter_map (λ s. marked s (fault_at ops s)) ss)
faults_rise ops [] up = tt
faults_rise ops (s ∷ ss) up = go (fault_at ops s) (faults_rise ops ss up.1)
  where
    rest : List CopyFault
    rest = filter_map (λ s. marked s (fault_at ops s)) ss

    later : (g : CopyFault) → Among g rest → before s g.stamp ≡ true
    later g m = found (among-filter_map (λ s. marked s (fault_at ops s)) ss g m)
      where
        found : ((t : Stamp) × Among t ss × (marked t (fault_at ops t) ≡ Some g)) → before s g.stamp ≡ true
        found r = subst (λ t. before s t ≡ true) (marked_is r.0 (fault_at ops r.0) g r.2).0 (each-among (λ t. before s t ≡ true) ss r.0 up.0 r.1)

    go : (r : Option FaultKind) → IsByStamp rest → IsByStamp (cons_option (marked s r) rest)
    go None h = h
    go (Some k) h = (each-from_among (λ g. before s g.stamp ≡ true) rest later, h)

pub faults_by_stamp : (h : OpSet) → IsByStamp (faults_of h)
unfolding copy_faults
faults_by_stamp h = faults_rise (in_order h) (stamps (in_order h)) (stamps_rise (in_order h) (ordered h))

-- ---- the fault at an end

pub end_head : (ops : List Op) (t : Stamp) → same t head ≡ true → fault_of_end ops t ≡ None
end_head ops t e = subst (λ b. elim b [ true ↦ None | false ↦ elim (is_borne ops t) [ true ↦ Some Void | false ↦ Some Waiting ] ] ≡ None) (sym e) refl

pub end_borne : (ops : List Op) (t : Stamp) → same t head ≡ false → is_borne ops t ≡ true → fault_of_end ops t ≡ Some Void
end_borne ops t e b =
    subst (λ a. elim a [ true ↦ None | false ↦ elim (is_borne ops t) [ true ↦ Some Void | false ↦ Some Waiting ] ] ≡ Some Void) (sym e)
    (subst (λ a. elim a [ true ↦ Some Void | false ↦ Some Waiting ] ≡ Some Void) (sym b) refl)

pub end_bare : (ops : List Op) (t : Stamp) → same t head ≡ false → is_borne ops t ≡ false → fault_of_end ops t ≡ Some Waiting
end_bare ops t e b =
    subst (λ a. elim a [ true ↦ None | false ↦ elim (is_borne ops t) [ true ↦ Some Void | false ↦ Some Waiting ] ] ≡ Some Waiting) (sym e)
    (subst (λ a. elim a [ true ↦ Some Void | false ↦ Some Waiting ] ≡ Some Waiting) (sym b) refl)
