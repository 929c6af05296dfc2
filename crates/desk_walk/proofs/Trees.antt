-- A walk kept by links: what one node more, a mark, and one more in the walk do to it.
use Rattle.std.proofs.Common.{◌≡◌, ℕ, zero, suc, ◌+◌, ◌-◌, ◌<◌, true, List, [], ◌∷◌, map, length, get_or, refl, sym, ap, ◌∙◌, subst, ◌⊎◌, inl, inr, arith}
use Rattle.std.specs.List.{insert}
use Rattle.std.proofs.lemmas.Bool.{true≢false, cases_eq}
use Rattle.desk_ops.specs.declared.op.Stamp.{Stamp}
use Rattle.desk_ops.specs.Stamp.{head}
use Rattle.desk_ops.specs.Op.{stamp_of}
use Rattle.desk_ops.specs.OpSet.{OpSet, in_order}
use Rattle.desk_ops.specs.Lists.{Among}
use Rattle.desk_ops.proofs.Lists.{Each, each-among, each-from_among, Each-weaker}
use Rattle.desk_seq.specs.declared.Entry.{Entry}
use Rattle.desk_seq.specs.Entries.{stamps_of, with_mark, marked}
use Rattle.desk_seq.proofs.Entries.{map-insert}
use Rattle.desk_walk.specs.declared.tree.Node.{Node}
use Rattle.desk_walk.specs.Following.{place_at, new_entry}
use Rattle.desk_walk.specs.Tree.{op_at, symbol_of, node_at, order, stamp_at, entry_at, walked, IsApart, passed, linked, crossed, IsClearAt, IsTree, IsPlaceOf}
use Rattle.desk_walk.proofs.Lists.{among-map, among-insert, insert-among}
use Rattle.desk_walk.proofs.Beside.{index-of}
use Rattle.desk_walk.proofs.Links.{each-insert, apart-insert, map-alike, map-marked, links-alike, length-passed, passed-at, passed-new, length-crossed, crossed-here, crossed-other, crossed-next, crossed-linked, length-linked, linked-new, linked-linked, linked-deleted, links-insert}

-- ---- the tree, with one node more

module _ (h : OpSet) (nodes : List Node) (count : ℕ) (t : IsTree h nodes count) where
  pub standing : (k : ℕ) → Among k (0 ∷ order nodes count) → k < length nodes
  standing k (inl e) = let s = t.some in omega arith
  standing k (inr m) = each-among (λ n. n < length nodes) (order nodes count) k t.within m

  pub positive : (k : ℕ) → Among k (order nodes count) → 0 < k
  positive k m = go (cases_eq k 0)
    where
      go : (k ≡ 0) ⊎ (k ≡ 0 → ⊥) → 0 < k
      go (inl e) = absurd (t.apart.0 (subst (λ n. Among n (order nodes count)) e m))
      go (inr ne) = omega arith

  pub order-passed : order (passed nodes) count ≡ order nodes count
  order-passed = links-alike nodes (passed nodes) (λ k lt. ap (λ (n : Node). n.next) (passed-at nodes k lt)) 0 count t.some t.within

  pub walked-passed : walked h (passed nodes) count ≡ walked h nodes count
  walked-passed = ap (map (entry_at (in_order h) (passed nodes))) order-passed
      ∙ map-alike (entry_at (in_order h) nodes) (entry_at (in_order h) (passed nodes)) (order nodes count) (λ k m. alike k (passed-at nodes k (standing k (inr m))))
    where
      alike : (k : ℕ) → node_at (passed nodes) k ≡ node_at nodes k → entry_at (in_order h) (passed nodes) k ≡ entry_at (in_order h) nodes k
      alike k e = ap (λ (n : Node). record { stamp = stamp_of (op_at (in_order h) (k - 1)); symbol = symbol_of (op_at (in_order h) (k - 1)); deleted = n.deleted }) e

  pub tree-passed : IsTree h (passed nodes) count
  tree-passed = record {
    some = omega (arith, length-passed nodes, t.some);
    within = subst (Each (λ k. k < length (passed nodes))) (sym order-passed) (Each-weaker (λ k. k < length nodes) (λ k. k < length (passed nodes)) (λ k l. omega (arith, length-passed nodes)) (order nodes count) t.within);
    apart = subst (λ ks. IsApart (0 ∷ ks)) (sym order-passed) t.apart;
    linked = λ k lt e. subst (λ ks. Among k (0 ∷ ks)) (sym order-passed) (covers k lt e (cases_eq k (length nodes)));
    on = subst (λ ks. Each (λ k. (node_at (passed nodes) k).linked ≡ true) (0 ∷ ks)) (sym order-passed)
        (each-from_among (λ k. (node_at (passed nodes) k).linked ≡ true) (0 ∷ order nodes count)
        (λ k m. ap (λ (n : Node). n.linked) (passed-at nodes k (standing k m)) ∙ each-among (λ n. (node_at nodes n).linked ≡ true) (0 ∷ order nodes count) k t.on m));
    clear = subst (Each (IsClearAt h)) (sym order-passed) t.clear;
  }
    where
      covers : (k : ℕ) → k < length (passed nodes) → (node_at (passed nodes) k).linked ≡ true → (k ≡ length nodes) ⊎ (k ≡ length nodes → ⊥) → Among k (0 ∷ order nodes count)
      covers k lt e (inl f) = absurd (true≢false (sym e ∙ ap (λ n. (node_at (passed nodes) n).linked) f ∙ ap (λ (n : Node). n.linked) (passed-new nodes)))
      covers k lt e (inr ne) =
          let l : k < length nodes = omega (arith, length-passed nodes) in
          t.linked k l (ap (λ (n : Node). n.linked) (sym (passed-at nodes k l)) ∙ e)

  -- the place of a node in the walk
  pub place-of : (p : ℕ) → p < length nodes → (node_at nodes p).linked ≡ true → (at : ℕ) × (at < length (0 ∷ order nodes count)) × (get_or (0 ∷ order nodes count) at 0 ≡ p)
  place-of p lt e = index-of (0 ∷ order nodes count) 0 p (t.linked p lt e)

  stamp-is : (k : ℕ) → 0 < k → stamp_of (op_at (in_order h) (k - 1)) ≡ stamp_at (in_order h) k
  stamp-is zero l = absurd (omega arith)
  stamp-is (suc k) l = let e : suc k - 1 ≡ k = omega arith in ap (λ n. stamp_of (op_at (in_order h) n)) e

  pub place-stamp : (at : ℕ) → at < length (0 ∷ order nodes count) → place_at (walked h nodes count) at ≡ stamp_at (in_order h) (get_or (0 ∷ order nodes count) at 0)
  place-stamp zero l = refl
  place-stamp (suc j) l = go (order nodes count) positive j (omega arith)
    where
      go : (ks : List ℕ) → ((k : ℕ) → Among k ks → 0 < k) → (j : ℕ) → j < length ks → get_or (stamps_of (map (entry_at (in_order h) nodes) ks)) j head ≡ stamp_at (in_order h) (get_or ks j 0)
      go [] pos j l = absurd (omega arith)
      go (k ∷ ks) pos zero l = stamp-is k (pos k (inl refl))
      go (k ∷ ks) pos (suc j) l = go ks (λ n m. pos n (inr m)) j (omega arith)

  -- an entry's node
  pub entry-node : (s : Stamp) → Among s (stamps_of (walked h nodes count)) → (k : ℕ) × Among k (order nodes count) × (0 < k) × (k < length nodes) × (stamp_of (op_at (in_order h) (k - 1)) ≡ s)
  entry-node s m = go (among-map (λ (e : Entry). e.stamp) (walked h nodes count) s m)
    where
      go : ((e : Entry) × Among e (walked h nodes count) × (e.stamp ≡ s)) → (k : ℕ) × Among k (order nodes count) × (0 < k) × (k < length nodes) × (stamp_of (op_at (in_order h) (k - 1)) ≡ s)
      go r = more (among-map (entry_at (in_order h) nodes) (order nodes count) r.0 r.1)
        where
          more : ((k : ℕ) × Among k (order nodes count) × (entry_at (in_order h) nodes k ≡ r.0)) → (k : ℕ) × Among k (order nodes count) × (0 < k) × (k < length nodes) × (stamp_of (op_at (in_order h) (k - 1)) ≡ s)
          more q = (q.0, q.1, positive q.0 q.1, standing q.0 (inr q.1), ap (λ (e : Entry). e.stamp) q.2 ∙ r.2)

  pub there-node : (s : Stamp) → (s ≡ head) ⊎ Among s (stamps_of (walked h nodes count)) → (p : ℕ) × IsPlaceOf (in_order h) nodes s p
  there-node s (inl e) = (0, record { within = t.some; linked = t.on.0; bears = sym e })
  there-node s (inr m) = let r = entry-node s m in (r.0, record { within = r.3; linked = each-among (λ n. (node_at nodes n).linked ≡ true) (0 ∷ order nodes count) r.0 t.on (inr r.1); bears = sym (stamp-is r.0 r.2) ∙ r.4 })

  -- ---- one deleted

  module _ (p : ℕ) (within : p < length nodes) where
    pub order-crossed : order (crossed nodes p) count ≡ order nodes count
    order-crossed = links-alike nodes (crossed nodes p) (λ k lt. crossed-next nodes p within k) 0 count t.some t.within

    pub tree-crossed : IsTree h (crossed nodes p) count
    tree-crossed = record {
      some = omega (arith, length-crossed nodes p within, t.some);
      within = subst (Each (λ k. k < length (crossed nodes p))) (sym order-crossed) (Each-weaker (λ k. k < length nodes) (λ k. k < length (crossed nodes p)) (λ k l. omega (arith, length-crossed nodes p within)) (order nodes count) t.within);
      apart = subst (λ ks. IsApart (0 ∷ ks)) (sym order-crossed) t.apart;
      linked = λ k lt e. subst (λ ks. Among k (0 ∷ ks)) (sym order-crossed) (t.linked k (omega (arith, length-crossed nodes p within)) (sym (crossed-linked nodes p within k) ∙ e));
      on = subst (λ ks. Each (λ k. (node_at (crossed nodes p) k).linked ≡ true) (0 ∷ ks)) (sym order-crossed)
          (Each-weaker (λ k. (node_at nodes k).linked ≡ true) (λ k. (node_at (crossed nodes p) k).linked ≡ true) (λ k e. crossed-linked nodes p within k ∙ e) (0 ∷ order nodes count) t.on);
      clear = subst (Each (IsClearAt h)) (sym order-crossed) t.clear;
    }

    pub walked-crossed : (j : ℕ) → j < length (order nodes count) → get_or (order nodes count) j 0 ≡ p → walked h (crossed nodes p) count ≡ with_mark (walked h nodes count) j
    walked-crossed j lt e = ap (map (entry_at (in_order h) (crossed nodes p))) order-crossed
        ∙ map-marked (entry_at (in_order h) nodes) (entry_at (in_order h) (crossed nodes p)) p (order nodes count) j t.apart.1 lt e (λ k ne m. alike k (crossed-other nodes p within k ne)) own
      where
        alike : (k : ℕ) → node_at (crossed nodes p) k ≡ node_at nodes k → entry_at (in_order h) (crossed nodes p) k ≡ entry_at (in_order h) nodes k
        alike k f = ap (λ (n : Node). record { stamp = stamp_of (op_at (in_order h) (k - 1)); symbol = symbol_of (op_at (in_order h) (k - 1)); deleted = n.deleted }) f

        own : entry_at (in_order h) (crossed nodes p) p ≡ marked (entry_at (in_order h) nodes p)
        own = ap (λ (n : Node). record { stamp = stamp_of (op_at (in_order h) (p - 1)); symbol = symbol_of (op_at (in_order h) (p - 1)); deleted = n.deleted }) (crossed-here nodes p within)

  -- ---- one more in the walk

  module _ (p : ℕ) (within : p < length nodes) (at : ℕ) (lt : at < length (0 ∷ order nodes count)) (is : get_or (0 ∷ order nodes count) at 0 ≡ p) where
    pub order-linked : order (linked nodes p) (count + 1) ≡ insert (order nodes count) at (length nodes)
    order-linked = let e : count + 1 ≡ suc count = omega arith in ap (order (linked nodes p)) e ∙ links-insert nodes p within 0 count at t.some t.within t.apart lt is

    pub tree-linked : IsClearAt h (length nodes) → IsTree h (linked nodes p) (count + 1)
    tree-linked c = record {
      some = omega (arith, length-linked nodes p within, t.some);
      within = subst (Each (λ k. k < length (linked nodes p))) (sym order-linked)
          (each-insert (λ k. k < length (linked nodes p)) (order nodes count) at (length nodes) (omega (arith, length-linked nodes p within))
          (Each-weaker (λ k. k < length nodes) (λ k. k < length (linked nodes p)) (λ k l. omega (arith, length-linked nodes p within)) (order nodes count) t.within));
      apart = subst (λ ks. IsApart (0 ∷ ks)) (sym order-linked)
          ((λ m. none (among-insert (order nodes count) at (length nodes) 0 m)), apart-insert (order nodes count) at (length nodes) (λ m. let l = standing (length nodes) (inr m) in omega arith) t.apart.1);
      linked = λ k l e. subst (λ ks. Among k (0 ∷ ks)) (sym order-linked) (covers k l e (cases_eq k (length nodes)));
      on = subst (λ ks. Each (λ k. (node_at (linked nodes p) k).linked ≡ true) (0 ∷ ks)) (sym order-linked) (
        linked-linked nodes p within 0 t.some ∙ t.on.0,
        each-insert (λ k. (node_at (linked nodes p) k).linked ≡ true) (order nodes count) at (length nodes) (ap (λ (n : Node). n.linked) (linked-new nodes p within))
            (each-from_among (λ k. (node_at (linked nodes p) k).linked ≡ true) (order nodes count)
            (λ k m. linked-linked nodes p within k (standing k (inr m)) ∙ each-among (λ n. (node_at nodes n).linked ≡ true) (0 ∷ order nodes count) k t.on (inr m))),
      );
      clear = subst (Each (IsClearAt h)) (sym order-linked) (each-insert (IsClearAt h) (order nodes count) at (length nodes) c t.clear);
    }
      where
        none : (length nodes ≡ 0) ⊎ Among 0 (order nodes count) → ⊥
        none (inl e) = let s = t.some in omega arith
        none (inr m) = t.apart.0 m

        grown : (k : ℕ) → Among k (0 ∷ order nodes count) → Among k (0 ∷ insert (order nodes count) at (length nodes))
        grown k (inl e) = inl e
        grown k (inr m) = inr (insert-among (order nodes count) at (length nodes) k (inr m))

        covers : (k : ℕ) → k < length (linked nodes p) → (node_at (linked nodes p) k).linked ≡ true → (k ≡ length nodes) ⊎ (k ≡ length nodes → ⊥) → Among k (0 ∷ insert (order nodes count) at (length nodes))
        covers k l e (inl f) = inr (insert-among (order nodes count) at (length nodes) k (inl (sym f)))
        covers k l e (inr ne) =
            let m : k < length nodes = omega (arith, length-linked nodes p within) in
            grown k (t.linked k m (sym (linked-linked nodes p within k m) ∙ e))

    pub walked-linked : (i : ℕ) → length nodes ≡ i + 1 → walked h (linked nodes p) (count + 1) ≡ insert (walked h nodes count) at (new_entry (stamp_of (op_at (in_order h) i)) (symbol_of (op_at (in_order h) i)))
    walked-linked i long =
        ap (map (entry_at (in_order h) (linked nodes p))) order-linked
        ∙ map-insert (entry_at (in_order h) (linked nodes p)) (order nodes count) at (length nodes)
        ∙ ap (λ es. insert es at (entry_at (in_order h) (linked nodes p) (length nodes)))
        (map-alike (entry_at (in_order h) nodes) (entry_at (in_order h) (linked nodes p)) (order nodes count) (λ k m. alike k (linked-deleted nodes p within k (standing k (inr m)))))
        ∙ ap (insert (walked h nodes count) at) own
      where
        alike : (k : ℕ) → (node_at (linked nodes p) k).deleted ≡ (node_at nodes k).deleted → entry_at (in_order h) (linked nodes p) k ≡ entry_at (in_order h) nodes k
        alike k f = ap (λ b. record { stamp = stamp_of (op_at (in_order h) (k - 1)); symbol = symbol_of (op_at (in_order h) (k - 1)); deleted = b }) f

        own : entry_at (in_order h) (linked nodes p) (length nodes) ≡ new_entry (stamp_of (op_at (in_order h) i)) (symbol_of (op_at (in_order h) i))
        own =
            let e : length nodes - 1 ≡ i = omega arith in
            ap (λ b. record { stamp = stamp_of (op_at (in_order h) (length nodes - 1)); symbol = symbol_of (op_at (in_order h) (length nodes - 1)); deleted = b }) (ap (λ (n : Node). n.deleted) (linked-new nodes p within))
            ∙ ap (λ n. new_entry (stamp_of (op_at (in_order h) n)) (symbol_of (op_at (in_order h) n))) e
