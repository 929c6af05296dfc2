-- The walk of a set's first operations: what the next of them does to it.
use Rattle.std.proofs.Common.{◌≡◌, ℕ, zero, suc, ◌+◌, ◌-◌, ◌<◌, ◌≤◌, Bool, true, false, cond, ◌||◌, ◌&&◌, List, [], ◌∷◌, ◌++◌, length, get_or, take, drop, refl, sym, ap, ◌∙◌, subst, subst₂, ◌⊎◌, inl, inr, Some, None, arith, append_assoc}
use Rattle.std.specs.List.{insert, filter, list_any}
use Rattle.std.specs.Ordering.{eq_by_cmp}
use Rattle.std.specs.Option.{is_some}
use Rattle.std.proofs.lemmas.List.{length-map, length-append}
use Rattle.desk_ops.specs.declared.op.Stamp.{Stamp}
use Rattle.desk_ops.specs.declared.op.Op.{Op}
use Rattle.desk_ops.specs.declared.op.Op.TheVariants.{Insert, Delete, Set}
use Rattle.desk_ops.specs.Stamp.{before, head}
use Rattle.desk_ops.specs.Op.{stamp_of, target_of, Insertion, IsLawful}
use Rattle.desk_ops.specs.Order.{op_cmp}
use Rattle.desk_ops.specs.OpSet.{OpSet, no_ops, has_op, with_all, in_order, AllLawful}
use Rattle.desk_ops.specs.Lists.{Among}
use Rattle.desk_ops.specs.Held.{is_clear_in}
use Rattle.desk_ops.specs.Live.{insert_of}
use Rattle.desk_ops.proofs.Stamps.{by_cases, same-true, before-trans, before-irrefl}
use Rattle.desk_ops.proofs.Lists.{each-among, among-filter}
use Rattle.desk_ops.proofs.Means.{among-any, any-among, counter-before}
use Rattle.desk_ops.proofs.Unions.{has_op-with_all}
use Rattle.desk_ops.proofs.OpSets.{none-held}
use Rattle.desk_seq.specs.declared.Entry.{Entry}
use Rattle.desk_seq.specs.Entries.{stamps_of, AreDistinct, IsFirstBelow, with_mark}
use Rattle.desk_seq.proofs.Entries.{distinct-insert, distinct-mark, map-insert, length-stamps, stamps-mark}
use Rattle.desk_walk.specs.declared.tree.Node.{Node}
use Rattle.desk_walk.specs.Following.{place_at, new_entry, IsFollowing, IsWithout}
use Rattle.desk_walk.specs.Tree.{no_op, op_at, symbol_of, order, stamp_at, entry_at, walked, passed, linked, crossed, IsActing, hangs, waits_at, IsClearAt, IsTree, IsLinking, IsPlaceOf}
use Rattle.desk_walk.proofs.Lists.{among-insert, absent-from}
use Rattle.desk_walk.proofs.Arrivals.{delete-target}
use Rattle.desk_walk.proofs.Drains.{put, mark}
use Rattle.desk_walk.proofs.Beside.{index-of, at-index, taken-index, index-taken, held-at, one-index, older-at}
use Rattle.desk_walk.proofs.Links.{length-passed, length-crossed, length-linked}
use Rattle.desk_walk.proofs.Trees.{walked-passed, tree-passed, place-of, place-stamp, entry-node, tree-crossed, walked-crossed, tree-linked, walked-linked}

-- ---- lists

pub split-append : {A : Type 0} (xs ys : List A) (x : A) → Among x (xs ++ ys) → Among x xs ⊎ Among x ys
split-append [] ys x m = inr m
split-append (y ∷ xs) ys x (inl e) = inl (inl e)
split-append (y ∷ xs) ys x (inr m) = go (split-append xs ys x m)
  where
    go : Among x xs ⊎ Among x ys → Among x (y ∷ xs) ⊎ Among x ys
    go (inl n) = inl (inr n)
    go (inr n) = inr n

pub into-append : {A : Type 0} (xs ys : List A) (x : A) → Among x xs ⊎ Among x ys → Among x (xs ++ ys)
into-append [] ys x (inl m) = absurd m
into-append [] ys x (inr m) = m
into-append (y ∷ xs) ys x (inl (inl e)) = inl e
into-append (y ∷ xs) ys x (inl (inr m)) = inr (into-append xs ys x (inl m))
into-append (y ∷ xs) ys x (inr m) = inr (into-append xs ys x (inr m))

pub drop-next : {A : Type 0} (xs : List A) (d : A) (i : ℕ) → i < length xs → drop i xs ≡ get_or xs i d ∷ drop (suc i) xs
drop-next [] d i lt = absurd (omega arith)
drop-next (x ∷ xs) d zero lt = refl
drop-next (x ∷ xs) d (suc i) lt = drop-next xs d i (omega arith)

index-dropped : {A : Type 0} (xs : List A) (d : A) (i : ℕ) (x : A) → Among x (drop i xs) → (j : ℕ) × (i ≤ j) × (j < length xs) × (get_or xs j d ≡ x)
index-dropped [] d zero x m = absurd m
index-dropped [] d (suc i) x m = absurd m
index-dropped (y ∷ xs) d zero x m = let r = index-of (y ∷ xs) d x m in (r.0, omega arith, r.1, r.2)
index-dropped (y ∷ xs) d (suc i) x m = let r = index-dropped xs d i x m in let a : i ≤ r.0 = r.1 in let b : r.0 < length xs = r.2 in (suc r.0, omega arith, omega arith, r.3)

-- what a set of a list's operations holds
pub held-all : (os : List Op) (q : Op) → has_op (with_all no_ops os) q ≡ true → Among q os
held-all os q e = any-among q os (turn (list_any (eq_by_cmp op_cmp q) os) (has_op no_ops q) (none-held q) (sym (has_op-with_all no_ops os q) ∙ e))
  where
    turn : (a b : Bool) → b ≡ false → (a || b) ≡ true → a ≡ true
    turn true b z f = refl
    turn false b z f = sym z ∙ f

pub all-held : (os : List Op) (q : Op) → Among q os → has_op (with_all no_ops os) q ≡ true
all-held os q m = has_op-with_all no_ops os q ∙ ap (λ b. b || has_op no_ops q) (among-any q os m)

-- ---- the next operation

lawful-target : (o : Op) (t : Stamp) → IsLawful o → target_of o ≡ Some t → before t (stamp_of o) ≡ true
lawful-target (Insert s p y) t l e = let i : p ≡ t = cc in subst (λ u. before u s ≡ true) i (counter-before p s l.2)
lawful-target (Delete s u) t l e = let i : u ≡ t = cc in subst (λ v. before v s ≡ true) i (counter-before u s l.2)
lawful-target (Set s k v) t l e = cc

module _ (h : OpSet) (i : ℕ) (lt : i < length (in_order h)) (nodes : List Node) (count : ℕ) (waiting : List Op) (l : IsLinking h i nodes count waiting) where
  lawful : AllLawful h
  lawful = l.lawful

  abbrev o : Op
  o = op_at (in_order h) i

  abbrev es : List Entry
  es = walked h nodes count

  abbrev later : List Op
  later = filter (hangs h) (drop (i + 1) (in_order h))

  drop-here : drop i (in_order h) ≡ o ∷ drop (i + 1) (in_order h)
  drop-here = let e : suc i ≡ i + 1 = omega arith in drop-next (in_order h) no_op i lt ∙ ap (λ n. o ∷ drop n (in_order h)) e

  rest-hangs : hangs h o ≡ true → filter (hangs h) (drop i (in_order h)) ≡ o ∷ later
  rest-hangs e = ap (filter (hangs h)) drop-here ∙ ap (λ b. cond b (o ∷ later) later) e

  rest-other : hangs h o ≡ false → filter (hangs h) (drop i (in_order h)) ≡ later
  rest-other e = ap (filter (hangs h)) drop-here ∙ ap (λ b. cond b (o ∷ later) later) e

  seen-on : (q : Op) → Among q waiting → Among q (take (i + 1) (in_order h))
  seen-on q m = go (index-taken (in_order h) no_op i q (l.seen q m))
    where
      go : ((j : ℕ) × (j < i) × (j < length (in_order h)) × (get_or (in_order h) j no_op ≡ q)) → Among q (take (i + 1) (in_order h))
      go r = subst (λ p. Among p (take (i + 1) (in_order h))) r.3 (taken-index (in_order h) no_op (i + 1) r.0 (let a : r.0 < i = r.1 in omega arith) r.2)

  seen-own : Among o (take (i + 1) (in_order h))
  seen-own = taken-index (in_order h) no_op (i + 1) i (omega arith) lt

  -- those that wait are others, and so are those that come later
  not-waiting : Among o waiting → ⊥
  not-waiting m = go (index-taken (in_order h) no_op i o (l.seen o m))
    where
      go : ((j : ℕ) × (j < i) × (j < length (in_order h)) × (get_or (in_order h) j no_op ≡ o)) → ⊥
      go r = let a : r.0 < i = r.1 in let e : r.0 ≡ i = one-index h r.0 i r.2 lt r.3 in omega arith

  not-later : Among o later → ⊥
  not-later m = go (index-dropped (in_order h) no_op (i + 1) o (among-filter (hangs h) (drop (i + 1) (in_order h)) o m).0)
    where
      go : ((j : ℕ) × (i + 1 ≤ j) × (j < length (in_order h)) × (get_or (in_order h) j no_op ≡ o)) → ⊥
      go r = let a : i + 1 ≤ r.0 = r.1 in let e : r.0 ≡ i = one-index h r.0 i r.2 lt r.3 in omega arith

  -- one that has no target or is not clear
  pub step-other : hangs h o ≡ false → IsLinking h (i + 1) (passed nodes) count waiting
  step-other e = record {
    lawful = l.lawful;
    small = l.small;
    long = omega (arith, length-passed nodes, l.long);
    counted = omega (arith, l.counted);
    few = omega (arith, l.few);
    tree = tree-passed h nodes count l.tree;
    distinct = subst AreDistinct (sym (walked-passed h nodes count l.tree)) l.distinct;
    follows = subst₂ (λ (os : List Op) (fs : List Entry). IsFollowing h (has_op (with_all no_ops (waiting ++ os))) fs) (rest-other e) (sym (walked-passed h nodes count l.tree)) l.follows;
    seen = seen-on;
    idle = λ q m t f s. l.idle q m t f (subst (λ (fs : List Entry). (t ≡ head) ⊎ Among t (stamps_of fs)) (walked-passed h nodes count l.tree) s);
  }

  module _ (hang : hangs h o ≡ true) where
    waits-own : waits_at h waiting i o ≡ true
    waits-own = all-held (waiting ++ filter (hangs h) (drop i (in_order h))) o (into-append waiting (filter (hangs h) (drop i (in_order h))) o (inr (subst (Among o) (sym (rest-hangs hang)) (inl refl))))

    -- one whose target does not stand in the walk
    pub step-waits : ((t : Stamp) → target_of o ≡ Some t → (t ≡ head) ⊎ Among t (stamps_of es) → ⊥) → IsLinking h (i + 1) (passed nodes) count (waiting ++ o ∷ [])
    step-waits none = record {
      lawful = l.lawful;
      small = l.small;
      long = omega (arith, length-passed nodes, l.long);
      counted = omega (arith, l.counted);
      few = omega (arith, l.few, length-append waiting (o ∷ []));
      tree = tree-passed h nodes count l.tree;
      distinct = subst AreDistinct (sym (walked-passed h nodes count l.tree)) l.distinct;
      follows = subst₂ (λ (os : List Op) (fs : List Entry). IsFollowing h (has_op (with_all no_ops os)) fs) (ap (λ (os : List Op). waiting ++ os) (rest-hangs hang) ∙ sym (append_assoc waiting (o ∷ []) later)) (sym (walked-passed h nodes count l.tree)) l.follows;
      seen = λ q m. seen q (split-append waiting (o ∷ []) q m);
      idle = λ q m t f s. idle q (split-append waiting (o ∷ []) q m) t f (subst (λ (fs : List Entry). (t ≡ head) ⊎ Among t (stamps_of fs)) (walked-passed h nodes count l.tree) s);
    }
      where
        seen : (q : Op) → Among q waiting ⊎ Among q (o ∷ []) → Among q (take (i + 1) (in_order h))
        seen q (inl m) = seen-on q m
        seen q (inr (inl e)) = subst (λ p. Among p (take (i + 1) (in_order h))) e seen-own
        seen q (inr (inr m)) = absurd m

        idle : (q : Op) → Among q waiting ⊎ Among q (o ∷ []) → (t : Stamp) → target_of q ≡ Some t → (t ≡ head) ⊎ Among t (stamps_of es) → ⊥
        idle q (inl m) t f s = l.idle q m t f s
        idle q (inr (inl e)) t f s = none t (ap target_of e ∙ f) s
        idle q (inr (inr m)) t f s = absurd m

    -- it acts, and no longer waits
    without : IsWithout (waits_at h waiting i) (waits_at h waiting (i + 1)) o
    without = record {
      rest = λ q e. rest q (split-append waiting (filter (hangs h) (drop i (in_order h))) q (held-all (waiting ++ filter (hangs h) (drop i (in_order h))) q e));
      within = λ q e. within q (split-append waiting later q (held-all (waiting ++ later) q e));
      gone = by_cases (waits_at h waiting (i + 1) o) (λ e. absurd (gone (split-append waiting later o (held-all (waiting ++ later) o e)))) (λ e. e);
    }
      where
        rest : (q : Op) → Among q waiting ⊎ Among q (filter (hangs h) (drop i (in_order h))) → (o ≡ q) ⊎ (waits_at h waiting (i + 1) q ≡ true)
        rest q (inl m) = inr (all-held (waiting ++ later) q (into-append waiting later q (inl m)))
        rest q (inr m) = go (subst (Among q) (rest-hangs hang) m)
          where
            go : (o ≡ q) ⊎ Among q later → (o ≡ q) ⊎ (waits_at h waiting (i + 1) q ≡ true)
            go (inl e) = inl e
            go (inr n) = inr (all-held (waiting ++ later) q (into-append waiting later q (inr n)))

        within : (q : Op) → Among q waiting ⊎ Among q later → waits_at h waiting i q ≡ true
        within q (inl m) = all-held (waiting ++ filter (hangs h) (drop i (in_order h))) q (into-append waiting (filter (hangs h) (drop i (in_order h))) q (inl m))
        within q (inr m) = all-held (waiting ++ filter (hangs h) (drop i (in_order h))) q (into-append waiting (filter (hangs h) (drop i (in_order h))) q (inr (subst (Among q) (sym (rest-hangs hang)) (inr m))))

        gone : Among o waiting ⊎ Among o later → ⊥
        gone (inl m) = not-waiting m
        gone (inr m) = not-later m

    clear : is_clear_in h (stamp_of o) ≡ true
    clear = left (is_clear_in h (stamp_of o)) (is_some (target_of o)) hang
      where
        left : (a b : Bool) → (a && b) ≡ true → a ≡ true
        left true b e = refl
        left false b e = e

    -- those before it are older
    older : (q : Op) → Among q (take i (in_order h)) → before (stamp_of q) (stamp_of o) ≡ true
    older q m = go (index-taken (in_order h) no_op i q m)
      where
        go : ((j : ℕ) × (j < i) × (j < length (in_order h)) × (get_or (in_order h) j no_op ≡ q)) → before (stamp_of q) (stamp_of o) ≡ true
        go r = subst (λ p. before (stamp_of p) (stamp_of o) ≡ true) r.3 (older-at h r.0 i r.1 lt clear)

    newest : (s : Stamp) → Among s (stamps_of es) → before s (stamp_of o) ≡ true
    newest s m = go (entry-node h nodes count l.tree s m)
      where
        go : ((k : ℕ) × Among k (order nodes count) × (0 < k) × (k < length nodes) × (stamp_of (op_at (in_order h) (k - 1)) ≡ s)) → before s (stamp_of o) ≡ true
        go r =
            let a : 0 < r.0 = r.2 in let b : r.0 < length nodes = r.3 in
            subst (λ u. before u (stamp_of o) ≡ true) r.4 (older-at h (r.0 - 1) i (omega (arith, l.long)) lt clear)

    -- what waits does not wait for it
    not-target : (q : Op) → Among q waiting → target_of q ≡ Some (stamp_of o) → ⊥
    not-target q m e =
        let old = older q (l.seen q m) in
        before-irrefl (stamp_of o) (before-trans (stamp_of o) (stamp_of q) (stamp_of o) (lawful-target q (stamp_of o) (law (index-taken (in_order h) no_op i q (l.seen q m))) e) old)
      where
        law : ((j : ℕ) × (j < i) × (j < length (in_order h)) × (get_or (in_order h) j no_op ≡ q)) → IsLawful q
        law r = subst IsLawful r.3 (each-among IsLawful (in_order h) (op_at (in_order h) r.0) lawful (at-index (in_order h) no_op r.0 r.2))

    length-es : length es ≡ length (order nodes count)
    length-es = length-map (order nodes count) (entry_at (in_order h) nodes)

    module _ (p : ℕ) (within : p < length nodes) (at : ℕ) (in' : at < length (0 ∷ order nodes count)) (is : get_or (0 ∷ order nodes count) at 0 ≡ p) where
      on : (t : Stamp) → stamp_at (in_order h) p ≡ t → t ≡ place_at es at
      on t e = sym (place-stamp h nodes count l.tree at in' ∙ ap (stamp_at (in_order h)) is ∙ e)

      low : at ≤ length es
      low = let n : at < suc (length (order nodes count)) = in' in omega (arith, length-es)

      -- an insert under a node in the walk
      pub step-insert : (e : Insertion) → o ≡ insert_of e → stamp_at (in_order h) p ≡ e.parent → IsLinking h (i + 1) (linked nodes p) (count + 1) waiting
      step-insert e f bears = record {
        lawful = l.lawful;
        small = l.small;
        long = omega (arith, length-linked nodes p within, l.long);
        counted = omega (arith, l.counted);
        few = omega (arith, l.few);
        tree = tree-linked h nodes count l.tree p within at in' is new-clear;
        distinct = subst AreDistinct (sym walk) (distinct-insert es at (new_entry e.stamp e.symbol) l.distinct
            (absent-from e.stamp es (λ m. before-irrefl e.stamp (fresh e.stamp m)) (λ t k. same-true t e.stamp k)));
        follows = subst (IsFollowing h (waits_at h waiting (i + 1))) (sym walk)
            (put h lawful (waits_at h waiting i) es l.follows at low l.distinct (waits_at h waiting (i + 1)) e (subst (λ q. waits_at h waiting i q ≡ true) f waits-own) (on e.parent bears)
            (subst (IsWithout (waits_at h waiting i) (waits_at h waiting (i + 1))) f without) at first);
        seen = seen-on;
        idle = λ q m t k s. idle q m t k (subst (λ (fs : List Entry). (t ≡ head) ⊎ Among t (stamps_of fs)) walk s);
      }
        where
          walk : walked h (linked nodes p) (count + 1) ≡ insert es at (new_entry e.stamp e.symbol)
          walk = walked-linked h nodes count l.tree p within at in' is i l.long ∙ ap (λ q. insert es at (new_entry (stamp_of q) (symbol_of q))) f

          new-clear : IsClearAt h (length nodes)
          new-clear = let k : length nodes - 1 ≡ i = omega (arith, l.long) in (e, ap (op_at (in_order h)) k ∙ f, ap (λ q. is_clear_in h (stamp_of q)) (sym f) ∙ clear)

          fresh : (s : Stamp) → Among s (stamps_of es) → before s e.stamp ≡ true
          fresh s m = subst (λ q. before s (stamp_of q) ≡ true) f (newest s m)

          first : IsFirstBelow (stamps_of es) at e.stamp at
          first = record {
            after = omega arith;
            within = omega (arith, length-stamps es, low);
            skipped = λ k a b. absurd (omega arith);
            stops = λ b. fresh (get_or (stamps_of es) at head) (at-index (stamps_of es) head at b);
          }

          idle : (q : Op) → Among q waiting → (t : Stamp) → target_of q ≡ Some t → (t ≡ head) ⊎ Among t (stamps_of (insert es at (new_entry e.stamp e.symbol))) → ⊥
          idle q m t k (inl z) = l.idle q m t k (inl z)
          idle q m t k (inr n) = go (among-insert (stamps_of es) at e.stamp t (subst (Among t) (map-insert (λ (g : Entry). g.stamp) es at (new_entry e.stamp e.symbol)) n))
            where
              go : (e.stamp ≡ t) ⊎ Among t (stamps_of es) → ⊥
              go (inl z) = not-target q m (k ∙ ap Some (sym z) ∙ ap (λ r. Some (stamp_of r)) (sym f))
              go (inr z) = l.idle q m t k (inr z)

      -- a delete of a node in the walk
      pub step-delete : (s t : Stamp) → o ≡ Delete s t → stamp_at (in_order h) p ≡ t → IsLinking h (i + 1) (passed (crossed nodes p)) count waiting
      step-delete s t f bears = record {
        lawful = l.lawful;
        small = l.small;
        long = omega (arith, length-passed (crossed nodes p), length-crossed nodes p within, l.long);
        counted = omega (arith, l.counted);
        few = omega (arith, l.few);
        tree = tree-passed h (crossed nodes p) count cross;
        distinct = subst AreDistinct (sym walk) (distinct-mark es (at - 1) l.distinct);
        follows = subst (IsFollowing h (waits_at h waiting (i + 1))) (sym walk)
            (mark h lawful (waits_at h waiting i) es l.follows at low l.distinct (waits_at h waiting (i + 1)) s t (subst (λ q. waits_at h waiting i q ≡ true) f waits-own) (at - 1) back (on t bears)
            (subst (IsWithout (waits_at h waiting i) (waits_at h waiting (i + 1))) f without));
        seen = seen-on;
        idle = λ q m u k n. l.idle q m u k (subst (λ (ts : List Stamp). (u ≡ head) ⊎ Among u ts) (ap (λ (fs : List Entry). stamps_of fs) walk ∙ stamps-mark es (at - 1)) n);
      }
        where
          positive : 0 < at
          positive = go at (on t bears)
            where
              go : (n : ℕ) → t ≡ place_at es n → 0 < n
              go zero e = absurd (delete-target h lawful s t (subst (λ q. has_op h q ≡ true) f (held-at h i lt)) e)
              go (suc n) e = omega arith

          back : at ≡ suc (at - 1)
          back = omega (arith, positive)

          cross : IsTree h (crossed nodes p) count
          cross = tree-crossed h nodes count l.tree p within

          walk : walked h (passed (crossed nodes p)) count ≡ with_mark es (at - 1)
          walk = walked-passed h (crossed nodes p) count cross
              ∙ walked-crossed h nodes count l.tree p within (at - 1) (let n : at < suc (length (order nodes count)) = in' in omega (arith, positive)) (ap (λ n. get_or (0 ∷ order nodes count) n 0) (sym back) ∙ is)

    pub acts : (q : Op) → o ≡ q → (t : Stamp) → target_of q ≡ Some t → (p : ℕ) → IsPlaceOf (in_order h) nodes t p → (new : List Node) (n : ℕ) → IsActing q p nodes count new n → IsLinking h (i + 1) new n waiting
    acts (Insert s u y) f t e p b new n a =
        let r = place-of h nodes count l.tree p b.within b.linked in
        let j : t ≡ u = cc in
        subst₂ (λ (ns : List Node) (m : ℕ). IsLinking h (i + 1) ns m waiting) (sym a.0) (sym a.1) (step-insert p b.within r.0 r.1 r.2 (record { stamp = s; parent = u; symbol = y }) f (b.bears ∙ j))
    acts (Delete s u) f t e p b new n a =
        let r = place-of h nodes count l.tree p b.within b.linked in
        let j : t ≡ u = cc in
        subst₂ (λ (ns : List Node) (m : ℕ). IsLinking h (i + 1) ns m waiting) (sym a.0) (sym a.1) (step-delete p b.within r.0 r.1 r.2 s u f (b.bears ∙ j))
    acts (Set s k v) f t e p b new n a = cc

pub other-none : (h : OpSet) (q : Op) → target_of q ≡ None → hangs h q ≡ false
other-none h q e = ap (λ t. is_clear_in h (stamp_of q) && is_some t) e ∙ and_false (is_clear_in h (stamp_of q))
  where
    and_false : (b : Bool) → (b && false) ≡ false
    and_false true = refl
    and_false false = refl

pub other-forked : (h : OpSet) (q : Op) → is_clear_in h (stamp_of q) ≡ false → hangs h q ≡ false
other-forked h q e = ap (λ b. b && is_some (target_of q)) e
