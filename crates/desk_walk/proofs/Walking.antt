-- The walk of a set by links: before the first operation, a search for a node, the way along the links, and the end.
use Rattle.std.proofs.Common.{◌≡◌, ℕ, zero, suc, ◌+◌, ◌-◌, ◌<◌, ◌≤◌, true, false, ◌&&◌, List, [], ◌∷◌, ◌++◌, map, length, get_or, drop, refl, sym, ap, ◌∙◌, subst, inl, inr, Some, arith, append_assoc, append-nil}
use Rattle.std.specs.Prelude.{Result, Ok, Err, OnOk}
use Rattle.std.specs.List.{filter}
use Rattle.std.specs.Option.{is_some}
use Rattle.std.proofs.lemmas.Bool.{true≢false, and_parts}
use Rattle.std.proofs.lemmas.List.{get_or_read}
use Rattle.desk_ops.specs.declared.op.Stamp.{Stamp}
use Rattle.desk_ops.specs.declared.op.Op.{Op}
use Rattle.desk_ops.specs.Stamp.{head, is_head}
use Rattle.desk_ops.specs.Op.{stamp_of, target_of, IsLawful}
use Rattle.desk_ops.specs.OpSet.{OpSet, no_ops, has_op, with_all, in_order, size, AllLawful, max_ops}
use Rattle.desk_ops.specs.Lists.{Among}
use Rattle.desk_ops.specs.Held.{is_clear_in}
use Rattle.desk_ops.specs.Live.{insert_of, IsClearOp}
use Rattle.desk_ops.proofs.Lists.{Each, each-among, each-from_among, among-filter, among-filter_from}
use Rattle.desk_ops.proofs.Ends.{among_held, held_among}
use Rattle.desk_ops.proofs.Unions.{size-few}
use Rattle.desk_ops.proofs.OpSets.{length-in_order}
use Rattle.desk_walk.specs.Waiting.{HasTarget}
use Rattle.desk_seq.specs.declared.Entry.{Entry}
use Rattle.desk_walk.specs.declared.tree.Node.{Node}
use Rattle.desk_walk.specs.Following.{places, place_at, IsFollowing, IsFree}
use Rattle.desk_walk.specs.Tree.{no_op, op_at, no_node, node_at, next_of, links, order, entry_at, walked, hangs, IsClearAt, IsTree, IsLinking, IsPlaceOf, AreSettled}
use Rattle.desk_walk.proofs.Arrived.{place-is}
use Rattle.desk_walk.proofs.Drains.{settled-entries, settled-waits}
use Rattle.desk_walk.proofs.Anew.{none-size, HoldsClear, begins}
use Rattle.desk_walk.proofs.Beside.{at-index, index-taken, clear-index}
use Rattle.desk_walk.proofs.Trees.{standing, positive}
use Rattle.desk_walk.proofs.Linking.{held-all, all-held}

-- ---- before the first operation

pub hangs-from : (h : OpSet) (o : Op) → is_clear_in h (stamp_of o) ≡ true → HasTarget o → hangs h o ≡ true
hangs-from h o c t = ap (λ b. b && is_some (target_of o)) c ∙ t

holds-clear : (h : OpSet) → HoldsClear h (with_all no_ops (filter (hangs h) (in_order h)))
holds-clear h = λ q. (to q, from q)
  where
    to : (q : Op) → has_op (with_all no_ops (filter (hangs h) (in_order h))) q ≡ true → IsClearOp h q × HasTarget q
    to q e =
        let r = among-filter (hangs h) (in_order h) q (held-all (filter (hangs h) (in_order h)) q e) in
        ((held_among h q r.0, (and_parts (is_clear_in h (stamp_of q)) (is_some (target_of q)) r.1).0), (and_parts (is_clear_in h (stamp_of q)) (is_some (target_of q)) r.1).1)

    from : (q : Op) → IsClearOp h q × HasTarget q → has_op (with_all no_ops (filter (hangs h) (in_order h))) q ≡ true
    from q c = all-held (filter (hangs h) (in_order h)) q (among-filter_from (hangs h) (in_order h) q (among_held h q c.0.0) (hangs-from h q c.0.1 c.1))

pub linking-none : (h : OpSet) → AllLawful h → size h ≤ max_ops → (nodes : List Node) (waiting : List Op) → nodes ≡ record { next = 0; linked = true; deleted = false } ∷ [] → waiting ≡ [] → IsLinking h 0 nodes 0 waiting
unfolding links
linking-none h lawful small nodes waiting e f =
    subst (λ (ns : List Node). IsLinking h 0 ns 0 waiting) (sym e) (subst (λ (os : List Op). IsLinking h 0 (record { next = 0; linked = true; deleted = false } ∷ []) 0 os) (sym f) (record {
      lawful = lawful;
      small = small;
      long = refl;
      counted = omega arith;
      few = omega arith;
      tree = record {
        some = omega arith;
        within = tt;
        apart = ((λ m. m), tt);
        linked = λ k lt g. inl (omega arith);
        on = (refl, tt);
        clear = tt;
      };
      distinct = tt;
      follows = (begins h (with_all no_ops (filter (hangs h) (in_order h))) (holds-clear h) [] refl).follows;
      seen = λ o m. absurd m;
      idle = λ o m. absurd m;
    }))

-- ---- a search

module _ (h : OpSet) (end : ℕ) (nodes : List Node) (count : ℕ) (waiting : List Op) (l : IsLinking h end nodes count waiting) (s : Stamp) where
  -- the only one that bears the stamp does not stand in the walk
  pub not-linked : (s ≡ head → ⊥) → end < length (in_order h) → (k : ℕ) → k < end → stamp_of (op_at (in_order h) k) ≡ s → (node_at nodes (k + 1)).linked ≡ false → (p : ℕ) → IsPlaceOf (in_order h) nodes s p → ⊥
  not-linked ne in' k lt e off zero b = ne (sym b.bears)
  not-linked ne in' k lt e off (suc m) b =
      let w : suc m < length nodes = b.within in
      let there : Among (suc m) (order nodes count) = turn (l.tree.linked (suc m) b.within b.linked) in
      let c : IsClearAt h (suc m) = each-among (IsClearAt h) (order nodes count) (suc m) l.tree.clear there in
      let back : suc m - 1 ≡ m = omega arith in
      let o : op_at (in_order h) m ≡ insert_of c.0 = ap (op_at (in_order h)) (sym back) ∙ c.1 in
      let i : k ≡ m = clear-index h k m (omega arith) (omega (arith, l.long)) (ap (λ q. is_clear_in h (stamp_of q)) o ∙ c.2) (e ∙ sym b.bears) in
      let j : k + 1 ≡ suc m = omega arith in
      true≢false (sym b.linked ∙ ap (λ n. (node_at nodes n).linked) (sym j) ∙ off)
    where
      turn : Among (suc m) (0 ∷ order nodes count) → Among (suc m) (order nodes count)
      turn (inl z) = absurd (omega arith)
      turn (inr n) = n

-- ---- the way along the links

pub record IsWalking (h : OpSet) (nodes : List Node) (count k passed : ℕ) (entries : List Entry) : Type 0 where
  pub at : k < length nodes
  pub each : Each (λ j. (0 < j) × (j < length nodes)) (links nodes k (count - passed))
  pub rest : entries ++ map (entry_at (in_order h) nodes) (links nodes k (count - passed)) ≡ walked h nodes count

pub walk-none : (h : OpSet) (nodes : List Node) (count : ℕ) → IsTree h nodes count → IsWalking h nodes count 0 0 []
walk-none h nodes count t = let e : count - 0 ≡ count = omega arith in record {
  at = t.some;
  each = subst (λ n. Each (λ j. (0 < j) × (j < length nodes)) (links nodes 0 n)) (sym e)
      (each-from_among (λ j. (0 < j) × (j < length nodes)) (order nodes count)
      (λ j m. (positive h nodes count t j m, standing h nodes count t j (inr m))));
  rest = ap (λ n. map (entry_at (in_order h) nodes) (links nodes 0 n)) e;
}

module _ (h : OpSet) (nodes : List Node) (count k passed : ℕ) (entries : List Entry) (w : IsWalking h nodes count k passed entries) where
  links-more : passed < count → links nodes k (count - passed) ≡ next_of nodes k ∷ links nodes (next_of nodes k) (count - (passed + 1))
  unfolding links
  links-more lt = let e : count - passed ≡ suc (count - (passed + 1)) = omega arith in ap (links nodes k) e

  pub walk-next : passed < count → (0 < next_of nodes k) × (next_of nodes k < length nodes)
  walk-next lt = (subst (Each (λ j. (0 < j) × (j < length nodes))) (links-more lt) w.each).0

  pub walk-more : passed < count → IsWalking h nodes count (next_of nodes k) (passed + 1) (entries ++ entry_at (in_order h) nodes (next_of nodes k) ∷ [])
  walk-more lt = record {
    at = (walk-next lt).1;
    each = (subst (Each (λ j. (0 < j) × (j < length nodes))) (links-more lt) w.each).1;
    rest = append_assoc entries (entry_at (in_order h) nodes (next_of nodes k) ∷ []) (map (entry_at (in_order h) nodes) (links nodes (next_of nodes k) (count - (passed + 1))))
        ∙ ap (λ ks. entries ++ map (entry_at (in_order h) nodes) ks) (sym (links-more lt)) ∙ w.rest;
  }

  -- the link that is read
  pub walk-read : (n : Node) → n ≡ get_or nodes k n → n.next ≡ next_of nodes k
  walk-read n e = ap (λ (m : Node). m.next) (get_or_read nodes k n w.at e no_node)

  pub walk-all : count ≤ passed → entries ≡ walked h nodes count
  unfolding links
  walk-all le = let e : count - passed ≡ 0 = omega arith in sym (append-nil entries) ∙ ap (λ n. entries ++ map (entry_at (in_order h) nodes) (links nodes k n)) (sym e) ∙ w.rest

-- ---- the end

drop-end : {A : Type 0} (xs : List A) → drop (length xs) xs ≡ []
drop-end [] = refl
drop-end (x ∷ xs) = drop-end xs

pub linking-all : (h : OpSet) → (i : ℕ) → i ≡ length (in_order h) → (nodes : List Node) (count : ℕ) (waiting : List Op) → IsLinking h i nodes count waiting → AreSettled h (walked h nodes count) waiting
linking-all h i is nodes count waiting l = record {
  settled = record { entries = settled-entries h l.lawful (has_op (with_all no_ops waiting)) es f nothing; waits = settled-waits h l.lawful (has_op (with_all no_ops waiting)) es f nothing };
  distinct = l.distinct;
  lawful = each-from_among IsLawful waiting (λ o m. law o (index-taken (in_order h) no_op i o (l.seen o m)));
  targets = each-from_among HasTarget waiting (λ o m. f.targets o (all-held waiting o m));
  few = omega (arith, l.few, length-in_order h);
}
  where
    es : List Entry
    es = walked h nodes count

    none-left : waiting ++ filter (hangs h) (drop i (in_order h)) ≡ waiting
    none-left = ap (λ n. waiting ++ filter (hangs h) (drop n (in_order h))) is ∙ ap (λ os. waiting ++ filter (hangs h) os) (drop-end (in_order h)) ∙ append-nil waiting

    f : IsFollowing h (has_op (with_all no_ops waiting)) (walked h nodes count)
    f = subst (λ (os : List Op). IsFollowing h (has_op (with_all no_ops os)) (walked h nodes count)) none-left l.follows

    nothing : (j : ℕ) → j < length (places (walked h nodes count)) → IsFree (has_op (with_all no_ops waiting)) (walked h nodes count) j
    nothing j lt = λ o w e. l.idle o (held-all waiting o w) (place_at (walked h nodes count) j) e (place-is (walked h nodes count) j lt)

    law : (o : Op) → ((j : ℕ) × (j < i) × (j < length (in_order h)) × (get_or (in_order h) j no_op ≡ o)) → IsLawful o
    law o r = subst IsLawful r.3 (each-among IsLawful (in_order h) (op_at (in_order h) r.0) l.lawful (at-index (in_order h) no_op r.0 r.2))

pub not-head-from : (s : Stamp) → is_head s ≡ false → s ≡ head → ⊥
not-head-from s e f = true≢false (sym (ap is_head f) ∙ e)

pub on-ok_both : {T E P Q R : Type 0} (r : Result T E) → (P → Q → R) → OnOk r P → OnOk r Q → OnOk r R
on-ok_both (Ok t) f p q = f p q
on-ok_both (Err e) f p q = tt

-- what is said of the target that an operation has
pub of_target : (P : Stamp → Type 0) (s t : Stamp) → Some s ≡ Some t → P s → P t
of_target P s t e p = let i : s ≡ t = cc in subst P i p

-- a set of a list's operations has no more
pub size-all : (os : List Op) → size (with_all no_ops os) ≤ length os
size-all os =
    let n : size no_ops ≡ 0 = none-size in
    let m : size (with_all no_ops os) ≤ size no_ops + length os = size-few no_ops os in
    omega (arith, n, m)
