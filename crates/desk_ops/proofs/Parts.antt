-- Parts of a set in which no stamp is forked and each operation hangs on what is live.
use Rattle.std.proofs.Common.{◌≡◌, ℕ, zero, suc, ◌<◌, true, false, List, [], ◌∷◌, map, refl, sym, ap, ◌∙◌, subst, ◌⊎◌, inl, inr, Some, arith}
use Rattle.std.specs.Prelude.{slice_index_or, not}
use Rattle.std.specs.Option.{unwrap_or}
use Rattle.std.proofs.lemmas.Bool.{true≢false}
use Rattle.desk_ops.specs.declared.op.Stamp.{Stamp}
use Rattle.desk_ops.specs.declared.op.Op.{Op}
use Rattle.desk_ops.specs.declared.op.Op.TheVariants.{Insert, Delete, Set}
use Rattle.desk_ops.specs.declared.fault.CopyFault.{CopyFault}
use Rattle.desk_ops.specs.declared.fault.FaultKind.{FaultKind}
use Rattle.desk_ops.specs.declared.fault.FaultKind.TheVariants.{Forked, Void, Waiting}
use Rattle.desk_ops.specs.Stamp.{head, same}
use Rattle.desk_ops.specs.Op.{stamp_of, target_of, IsLawful, Insertion}
use Rattle.desk_ops.specs.OpSet.{OpSet, has_op, in_order, IsWithin, AllLawful}
use Rattle.desk_ops.specs.Lists.{Among}
use Rattle.desk_ops.specs.Held.{is_forked, is_clear_in, is_borne_in, is_forked_in, clear_inserts_of, live_inserts_of, IsUnforked}
use Rattle.desk_ops.specs.Live.{insert_of, IsClearOp, IsOfLiveInsert, IsLiveOp}
use Rattle.desk_ops.specs.Shown.{is_deleted_in, shown, shown_of}
use Rattle.desk_ops.specs.Walk.{walk_of}
use Rattle.desk_ops.specs.Faults.{EndsAt, stops, goes, IsStuck, HasFault, faults_of}
use Rattle.desk_ops.proofs.Lists.{each-among, each-from_among, among-filter}
use Rattle.desk_ops.proofs.Stamps.{same-from, same-refl, by_cases}
use Rattle.desk_ops.proofs.Means.{clear_one, not-head}
use Rattle.desk_ops.proofs.Tree.{walk-live}
use Rattle.desk_ops.proofs.Ends.{among_held, insert_from_op, op_from_insert, op_from_live, live_from_op}
use Rattle.desk_ops.proofs.Bearers.{borne_op, forked_two}
use Rattle.desk_ops.proofs.Faulty.{none-some}
use Rattle.desk_ops.proofs.One.{unforked-clear}
use Rattle.desk_ops.proofs.Stuck.{fault_listed}
use Rattle.desk_ops.proofs.Joined.{same_bool}
use Rattle.desk_ops.proofs.Unions.{same-set}

pub some-stamp : (p t : Stamp) → Some p ≡ Some t → p ≡ t
some-stamp p t e = ap (λ r. unwrap_or r p) e

-- ---- no stamp is forked

pub unforked_clear : (g : OpSet) → IsUnforked g → (o : Op) → has_op g o ≡ true → is_clear_in g (stamp_of o) ≡ true
unforked_clear g u o k = unforked-clear g u o (among_held g o k)

-- one stamp, one operation
pub unforked_one : (g : OpSet) → IsUnforked g → (o p : Op) → has_op g o ≡ true → has_op g p ≡ true → stamp_of o ≡ stamp_of p → o ≡ p
unforked_one g u o p m n e = clear_one (in_order g) (stamp_of p) (unforked_clear g u p n) o p (among_held g o m) (among_held g p n) (same-from (stamp_of o) (stamp_of p) e) (same-refl (stamp_of p))

pub one_unforked : (g : OpSet) → ((o p : Op) → has_op g o ≡ true → has_op g p ≡ true → stamp_of o ≡ stamp_of p → o ≡ p) → IsUnforked g
one_unforked g one = each-from_among (λ o. is_forked (in_order g) (stamp_of o) ≡ false) (in_order g) (λ o m. by_cases (is_forked_in g (stamp_of o)) (λ e. absurd (two (stamp_of o) (forked_two g (stamp_of o) e))) (λ e. e))
  where
    two : (s : Stamp) → ((o : Op) × (p : Op) × (has_op g o ≡ true) × (has_op g p ≡ true) × (stamp_of o ≡ s) × (stamp_of p ≡ s) × (o ≡ p → ⊥)) → ⊥
    two s r = r.6 (one r.0 r.1 r.2 r.3 (r.4 ∙ sym r.5))

-- ---- what is shown is live

pub shown_live : (h : OpSet) (x : Insertion) → Among x (shown_of h) → Among x (live_inserts_of h)
unfolding shown
shown_live h x m = walk-live (in_order h) x (among-filter (λ x. not (is_deleted_in h x.stamp)) (walk_of h) x m).0

place_among : (xs : List Insertion) (i : ℕ) → (slice_index_or (map (λ (x : Insertion). x.stamp) xs) i head ≡ head) ⊎ ((x : Insertion) × Among x xs × (x.stamp ≡ slice_index_or (map (λ (x : Insertion). x.stamp) xs) i head))
place_among [] i = inl refl
place_among (x ∷ xs) zero = inr (x, inl refl, refl)
place_among (x ∷ xs) (suc i) = go (place_among xs i)
  where
    go : (slice_index_or (map (λ (x : Insertion). x.stamp) xs) i head ≡ head) ⊎ ((y : Insertion) × Among y xs × (y.stamp ≡ slice_index_or (map (λ (x : Insertion). x.stamp) xs) i head))
        → (slice_index_or (map (λ (x : Insertion). x.stamp) (x ∷ xs)) (suc i) head ≡ head) ⊎ ((y : Insertion) × Among y (x ∷ xs) × (y.stamp ≡ slice_index_or (map (λ (x : Insertion). x.stamp) (x ∷ xs)) (suc i) head))
    go (inl e) = inl e
    go (inr r) = inr (r.0, inr r.1, r.2)

-- what stands at a place of what is shown is the head or a live insert
pub place_live : (h : OpSet) (i : ℕ) → (slice_index_or (map (λ (x : Insertion). x.stamp) (shown_of h)) i head ≡ head) ⊎ IsOfLiveInsert h (slice_index_or (map (λ (x : Insertion). x.stamp) (shown_of h)) i head)
place_live h i = go (place_among (shown_of h) i)
  where
    go : (slice_index_or (map (λ (x : Insertion). x.stamp) (shown_of h)) i head ≡ head) ⊎ ((x : Insertion) × Among x (shown_of h) × (x.stamp ≡ slice_index_or (map (λ (x : Insertion). x.stamp) (shown_of h)) i head))
        → (slice_index_or (map (λ (x : Insertion). x.stamp) (shown_of h)) i head ≡ head) ⊎ IsOfLiveInsert h (slice_index_or (map (λ (x : Insertion). x.stamp) (shown_of h)) i head)
    go (inl e) = inl e
    go (inr r) = inr (r.0, shown_live h r.0 r.1, r.2)

-- ---- a part of a set in which no stamp is forked

module _ (h g : OpSet) (lh : AllLawful h) (lg : AllLawful g) (u : IsUnforked g) (w : IsWithin h g) where
  clear_part : (o : Op) → has_op h o ≡ true → IsClearOp g o
  clear_part o k = (w o k, unforked_clear g u o (w o k))

  live_up : (n : ℕ) (x : Insertion) → x.stamp.counter < n → Among x (live_inserts_of h) → Among x (live_inserts_of g)
  live_up zero x lt m = absurd (omega arith)
  live_up (suc n) x lt m =
      let l : IsLiveOp h (insert_of x) = op_from_live h lh x m in
      let own : IsLawful (insert_of x) = each-among IsLawful (in_order h) (insert_of x) lh (among_held h (insert_of x) l.0.0) in
      let older : x.parent.counter < x.stamp.counter = own.2 in
      live_from_op g lg x (clear_part (insert_of x) l.0.0, go (omega arith) (λ y. live_up n y) l.1)
    where
      go : x.parent.counter < n → ((y : Insertion) → y.stamp.counter < n → Among y (live_inserts_of h) → Among y (live_inserts_of g)) → (x.parent ≡ head) ⊎ IsOfLiveInsert h x.parent → (x.parent ≡ head) ⊎ IsOfLiveInsert g x.parent
      go lt rest (inl e) = inl e
      go lt rest (inr r) = inr (r.0, rest r.0 (subst (λ (s : Stamp). s.counter < n) (sym r.2) lt) r.1, r.2)

  pub live_within : (x : Insertion) → Among x (live_inserts_of h) → Among x (live_inserts_of g)
  live_within x m = live_up (suc x.stamp.counter) x (omega arith) m

  pub target_within : (s : Stamp) → (s ≡ head) ⊎ IsOfLiveInsert h s → (s ≡ head) ⊎ IsOfLiveInsert g s
  target_within s (inl e) = inl e
  target_within s (inr r) = inr (r.0, live_within r.0 r.1, r.2)

  -- ---- where each operation of the whole hangs on what is live

  module _ (hang : (o : Op) (t : Stamp) → has_op g o ≡ true → target_of o ≡ Some t → (t ≡ head) ⊎ IsOfLiveInsert g t) where
    -- a way that starts at the head or at a live insert of the whole ends at one
    end_hangs : (t s : Stamp) → EndsAt h t s → (s ≡ head) ⊎ IsOfLiveInsert g s → (t ≡ head) ⊎ IsOfLiveInsert g t
    end_hangs t s (stops none) k = k
    end_hangs t s (goes x m rest) k = end_hangs t x.parent rest (hang (insert_of x) x.parent (w (insert_of x) (op_from_insert h x m).0) refl)

    end_none : (t s : Stamp) → EndsAt h t s → (x : Insertion) → Among x (clear_inserts_of h) → x.stamp ≡ t → ⊥
    end_none t s (stops none) = none
    end_none t s (goes x m rest) = end_none t x.parent rest

    pub no_fork : (s : Stamp) → is_forked_in h s ≡ true → ⊥
    no_fork s e = go (forked_two h s e)
      where
        go : ((o : Op) × (p : Op) × (has_op h o ≡ true) × (has_op h p ≡ true) × (stamp_of o ≡ s) × (stamp_of p ≡ s) × (o ≡ p → ⊥)) → ⊥
        go r = r.6 (unforked_one g u r.0 r.1 (w r.0 r.2) (w r.1 r.3) (r.4 ∙ sym r.5))

    part_unforked : IsUnforked h
    part_unforked = one_unforked h (λ o p m n e. unforked_one g u o p (w o m) (w p n) e)

    pub no_void : (s t : Stamp) → IsStuck h s t → is_borne_in h t ≡ true → ⊥
    no_void s t d e = go (borne_op h t e) (end_hangs t d.target d.ends (hang d.op d.target (w d.op d.clear.0) d.targets))
      where
        lawful_stamp : (o : Op) → IsLawful o → same (stamp_of o) head ≡ false
        lawful_stamp (Insert s p y) l = not-head s l.0
        lawful_stamp (Delete s p) l = not-head s l.0
        lawful_stamp (Set s k v) l = not-head s l.0

        go : ((o : Op) × (has_op h o ≡ true) × (stamp_of o ≡ t)) → (t ≡ head) ⊎ IsOfLiveInsert g t → ⊥
        go r (inl i) = true≢false (sym (same-from (stamp_of r.0) head (r.2 ∙ i)) ∙ lawful_stamp r.0 (each-among IsLawful (in_order h) r.0 lh (among_held h r.0 r.1)))
        go r (inr x) =
            let live : IsLiveOp g (insert_of x.0) = op_from_live g lg x.0 x.1 in
            let one : r.0 ≡ insert_of x.0 = unforked_one g u r.0 (insert_of x.0) (w r.0 r.1) live.0.0 (r.2 ∙ sym x.2) in
            let own : has_op h (insert_of x.0) ≡ true = subst (λ o. has_op h o ≡ true) one r.1 in
            end_none t d.target d.ends x.0 (insert_from_op h x.0 (own, unforked_clear h part_unforked (insert_of x.0) own)) x.2

    -- what is not live waits
    pub waits : (f : CopyFault) → Among f (faults_of h) → f.kind ≡ Waiting
    waits f m = go f.kind (fault_listed h lh f m)
      where
        go : (k : FaultKind) → HasFault h f.stamp k → k ≡ Waiting
        go Forked e = absurd (no_fork f.stamp e)
        go Void r = absurd (no_void f.stamp r.0 r.1 r.2)
        go Waiting r = refl

    -- and a part that is the whole has no fault
    pub whole : IsWithin g h → (f : CopyFault) → Among f (faults_of h) → ⊥
    whole v f m = go f.kind (fault_listed h lh f m)
      where
        live : (o : Op) (t : Stamp) → IsClearOp h o → target_of o ≡ Some t → IsLawful o → (t ≡ head) ⊎ IsOfLiveInsert h t → IsLiveOp h o
        live (Insert s p y) t c e l k = (c, subst (λ q. (q ≡ head) ⊎ IsOfLiveInsert h q) (sym (some-stamp p t e)) k)
        live (Delete s p) t c e l k = (c, last k)
          where
            last : (t ≡ head) ⊎ IsOfLiveInsert h t → IsOfLiveInsert h p
            last (inl i) = absurd (true≢false (sym (same-from p head (some-stamp p t e ∙ i)) ∙ not-head p l.1))
            last (inr x) = (x.0, x.1, x.2 ∙ sym (some-stamp p t e))
        live (Set s k v) t c e l i = none-some t e

        down : (t : Stamp) → (t ≡ head) ⊎ IsOfLiveInsert g t → (t ≡ head) ⊎ IsOfLiveInsert h t
        down t k = subst (λ e. (t ≡ head) ⊎ IsOfLiveInsert e t) (same-set g h (λ q. same_bool (has_op g q) (has_op h q) (v q) (w q))) k

        go : (k : FaultKind) → HasFault h f.stamp k → ⊥
        go Forked e = no_fork f.stamp e
        go Void r = no_void f.stamp r.0 r.1 r.2
        go Waiting r =
            let d : IsStuck h f.stamp r.0 = r.1 in
            d.not_live (live d.op d.target d.clear d.targets (each-among IsLawful (in_order h) d.op lh (among_held h d.op d.clear.0))
            (down d.target (hang d.op d.target (w d.op d.clear.0) d.targets)))
