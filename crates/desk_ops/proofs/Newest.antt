-- An operation with a greater counter than all that are held: what is shown with it.
use Rattle.std.proofs.Common.{◌≡◌, ℕ, zero, suc, ◌+◌, ◌<◌, ◌≤◌, Bool, true, false, not, cond, ◌||◌, List, [], ◌∷◌, map, length, get_or, reverse, refl, sym, ap, ◌∙◌, subst, ◌⊎◌, inl, inr, arith}
use Rattle.std.specs.List.{filter, insert, remove}
use Rattle.std.proofs.lemmas.Bool.{or_right}
use Rattle.desk_ops.specs.declared.op.Stamp.{Stamp}
use Rattle.desk_ops.specs.declared.op.Symbol.{Symbol}
use Rattle.desk_ops.specs.declared.op.Key.{Key}
use Rattle.desk_ops.specs.declared.op.Op.{Op}
use Rattle.desk_ops.specs.declared.op.Op.TheVariants.{Insert, Delete, Set}
use Rattle.desk_ops.specs.Stamp.{same, before, head}
use Rattle.desk_ops.specs.Op.{stamp_of, IsLawful, Insertion}
use Rattle.desk_ops.specs.OpSet.{OpSet, with_op, in_order, AllLawful}
use Rattle.desk_ops.specs.Lists.{Among}
use Rattle.desk_ops.specs.Held.{is_borne_in, clear_inserts, clear_inserts_of, live_inserts, way_end, greatest_counter_of}
use Rattle.desk_ops.specs.Live.{insert_of, IsClearOp}
use Rattle.desk_ops.specs.Walk.{walk_from, walk, walk_of}
use Rattle.desk_ops.specs.Shown.{is_deleted_in, shown, shown_of}
use Rattle.desk_ops.specs.Scan.{skip, after_parent, scan_insert}
use Rattle.desk_ops.specs.Laws.{AreApart, IsParentAt}
use Rattle.desk_ops.proofs.Stamps.{same-true, same-from, same-symm, by_cases, before-apart_left}
use Rattle.desk_ops.proofs.Lists.{Each, each-among, each-from_among, each-filter}
use Rattle.desk_ops.proofs.Scans.{skip-stop, after-hit, after-miss, place-hit, place-miss}
use Rattle.desk_ops.proofs.Means.{clear_ascending, counter-before, live-parts, live_grows}
use Rattle.desk_ops.proofs.Tree.{filter-hit, filter-miss, walk-live, walk-apart}
use Rattle.desk_ops.proofs.Arrive.{ascending-same, walk_after}
use Rattle.desk_ops.proofs.Ends.{among_held, insert_from_op, op_from_insert, older}
use Rattle.desk_ops.proofs.Deletes.{deleted_from, deleted_by}
use Rattle.desk_ops.proofs.Joined.{same_bool}
use Rattle.desk_ops.proofs.Fresh.{clear_old, clear_new, own_clear}
use Rattle.desk_ops.proofs.Bearers.{counter_within, above_unborne}

-- ---- lists

-- whatever stands at j is apart from s
at_apart : (xs : List Insertion) (s : Stamp) → Each (λ z. same z.stamp s ≡ false) xs → (j : ℕ) → j < length xs → same (get_or (map (λ (x : Insertion). x.stamp) xs) j head) s ≡ false
at_apart [] s h j lt = absurd (omega arith)
at_apart (x ∷ xs) s h zero lt = h.0
at_apart (x ∷ xs) s h (suc j) lt = at_apart xs s h.1 j (omega arith)

skip_front : (e : Insertion) (w : List Insertion) → Each (λ y. before y.stamp e.stamp ≡ true) w → skip e w ≡ e ∷ w
unfolding skip
skip_front e [] h = refl
skip_front e (y ∷ ys) h = skip-stop e y ys h.0

-- put right after its parent in the walk, it comes right after it in what is kept
after_kept : (k : Insertion → Bool) (e : Insertion) → k e ≡ true → (w : List Insertion) → AreApart w → Each (λ y. before y.stamp e.stamp ≡ true) w
    → (j : ℕ) → j < length (filter k w) → get_or (map (λ (x : Insertion). x.stamp) (filter k w)) j head ≡ e.parent → filter k (after_parent e w) ≡ insert (filter k w) (suc j) e
unfolding after_parent
after_kept k e ke [] apart old j lt is = absurd (omega arith)
after_kept k e ke (y ∷ ys) apart old j lt is =
    by_cases (k y)
    (λ ky. kept ky j (subst (λ l. j < length l) (filter-hit k y ys ky) lt) (subst (λ l. get_or (map (λ (x : Insertion). x.stamp) l) j head ≡ e.parent) (filter-hit k y ys ky) is) (after_kept k e ke ys apart.1 old.1))
    (λ ky. rw (filter-miss k y ys ky) (left ky (subst (λ l. j < length l) (filter-miss k y ys ky) lt) (subst (λ l. get_or (map (λ (x : Insertion). x.stamp) l) j head ≡ e.parent) (filter-miss k y ys ky) is) (after_kept k e ke ys apart.1 old.1)))
  where
    -- the parent stands further on
    far : (j : ℕ) → j < length (filter k ys) → get_or (map (λ (x : Insertion). x.stamp) (filter k ys)) j head ≡ e.parent → same y.stamp e.parent ≡ false
    far j lt is = same-symm y.stamp e.parent ∙ subst (λ s. same s y.stamp ≡ false) is (at_apart (filter k ys) y.stamp (each-filter (λ z. same z.stamp y.stamp ≡ false) k ys apart.0) j lt)

    left : k y ≡ false → j < length (filter k ys) → get_or (map (λ (x : Insertion). x.stamp) (filter k ys)) j head ≡ e.parent
        → ((j : ℕ) → j < length (filter k ys) → get_or (map (λ (x : Insertion). x.stamp) (filter k ys)) j head ≡ e.parent → filter k (after_parent e ys) ≡ insert (filter k ys) (suc j) e)
        → filter k (after_parent e (y ∷ ys)) ≡ insert (filter k ys) (suc j) e
    left ky lt is rest = ap (filter k) (after-miss e y ys (far j lt is)) ∙ filter-miss k y (after_parent e ys) ky ∙ rest j lt is

    kept : k y ≡ true → (j : ℕ) → j < length (y ∷ filter k ys) → get_or (map (λ (x : Insertion). x.stamp) (y ∷ filter k ys)) j head ≡ e.parent
        → ((j : ℕ) → j < length (filter k ys) → get_or (map (λ (x : Insertion). x.stamp) (filter k ys)) j head ≡ e.parent → filter k (after_parent e ys) ≡ insert (filter k ys) (suc j) e)
        → filter k (after_parent e (y ∷ ys)) ≡ insert (filter k (y ∷ ys)) (suc j) e
    kept ky zero lt is rest =
        ap (filter k) (after-hit e y ys (same-from y.stamp e.parent is) ∙ ap (λ l. y ∷ l) (skip_front e ys old.1))
        ∙ filter-hit k y (e ∷ ys) ky ∙ ap (λ l. y ∷ l) (filter-hit k e ys ke)
        ∙ ap (λ l. insert l 1 e) (sym (filter-hit k y ys ky))
    kept ky (suc i) lt is rest =
        ap (filter k) (after-miss e y ys (far i (omega arith) is)) ∙ filter-hit k y (after_parent e ys) ky ∙ ap (λ l. y ∷ l) (rest i (omega arith) is)
        ∙ ap (λ l. insert l (suc (suc i)) e) (sym (filter-hit k y ys ky))

filter_same : (p q : Insertion → Bool) (xs : List Insertion) → Each (λ x. p x ≡ q x) xs → filter p xs ≡ filter q xs
filter_same p q [] h = refl
filter_same p q (x ∷ xs) h = λ i. cond (h.0 i) (x ∷ filter_same p q xs h.1 i) (filter_same p q xs h.1 i)

-- one more that is left out
without_at : (d : Stamp → Bool) (t : Stamp) (w : List Insertion) → AreApart w → (j : ℕ) → j < length (filter (λ x. not (d x.stamp)) w) → get_or (map (λ (x : Insertion). x.stamp) (filter (λ x. not (d x.stamp)) w)) j head ≡ t
    → filter (λ x. not (same t x.stamp || d x.stamp)) w ≡ remove (filter (λ x. not (d x.stamp)) w) j
without_at d t [] apart j lt is = absurd (omega arith)
without_at d t (y ∷ ys) apart j lt is =
    by_cases (not (d y.stamp))
    (λ ky. kept ky j (subst (λ l. j < length l) (filter-hit keep y ys ky) lt) (subst (λ l. get_or (map (λ (x : Insertion). x.stamp) l) j head ≡ t) (filter-hit keep y ys ky) is) (without_at d t ys apart.1))
    (λ ky. rw (filter-miss keep y ys ky) (filter-miss more y ys (gone ky (same t y.stamp)) ∙ without_at d t ys apart.1 j (subst (λ l. j < length l) (filter-miss keep y ys ky) lt) (subst (λ l. get_or (map (λ (x : Insertion). x.stamp) l) j head ≡ t) (filter-miss keep y ys ky) is)))
  where
    keep : Insertion → Bool
    keep x = not (d x.stamp)

    more : Insertion → Bool
    more x = not (same t x.stamp || d x.stamp)

    gone : not (d y.stamp) ≡ false → (b : Bool) → not (b || d y.stamp) ≡ false
    gone e true = refl
    gone e false = e

    far : (j : ℕ) → j < length (filter keep ys) → get_or (map (λ (x : Insertion). x.stamp) (filter keep ys)) j head ≡ t → same t y.stamp ≡ false
    far j lt is = subst (λ s. same s y.stamp ≡ false) is (at_apart (filter keep ys) y.stamp (each-filter (λ z. same z.stamp y.stamp ≡ false) keep ys apart.0) j lt)

    kept : not (d y.stamp) ≡ true → (j : ℕ) → j < length (y ∷ filter keep ys) → get_or (map (λ (x : Insertion). x.stamp) (y ∷ filter keep ys)) j head ≡ t
        → ((j : ℕ) → j < length (filter keep ys) → get_or (map (λ (x : Insertion). x.stamp) (filter keep ys)) j head ≡ t → filter more ys ≡ remove (filter keep ys) j)
        → filter more (y ∷ ys) ≡ remove (filter keep (y ∷ ys)) j
    kept ky zero lt is rest =
        filter-miss more y ys (ap (λ b. not (b || d y.stamp)) (same-from t y.stamp (sym is)))
        ∙ filter_same more keep ys (each-from_among (λ x. more x ≡ keep x) ys (λ x m. ap (λ b. not (b || d x.stamp)) (same-symm t x.stamp ∙ subst (λ s. same x.stamp s ≡ false) is (each-among (λ z. same z.stamp y.stamp ≡ false) ys x apart.0 m))))
        ∙ ap (λ l. remove l 0) (sym (filter-hit keep y ys ky))
    kept ky (suc i) lt is rest =
        filter-hit more y ys (ap (λ b. not (b || d y.stamp)) (far i (omega arith) is) ∙ ky) ∙ ap (λ l. y ∷ l) (rest i (omega arith) is)
        ∙ ap (λ l. remove l (suc i)) (sym (filter-hit keep y ys ky))

-- ---- a set with a newer operation

module _ (h : OpSet) (lawful : AllLawful h) (o : Op) (newest : greatest_counter_of h < (stamp_of o).counter) where
  pub fresh : is_borne_in h (stamp_of o) ≡ false
  fresh = above_unborne h (stamp_of o) newest

  below : (x : Insertion) → Among x (clear_inserts (in_order h)) → x.stamp.counter < (stamp_of o).counter
  below x m = let w : x.stamp.counter ≤ greatest_counter_of h = counter_within h (insert_of x) (op_from_insert h x m).0 in omega arith

  walk_older : Each (λ y. before y.stamp (stamp_of o) ≡ true) (walk_of h)
  walk_older = each-from_among (λ y. before y.stamp (stamp_of o) ≡ true) (walk_of h) (λ y m. counter-before y.stamp (stamp_of o) (below y (live-parts (in_order h) y (walk-live (in_order h) y m)).0))

  -- none waits for it
  none_waits : Each (λ y. same y.parent (stamp_of o) ≡ false) (clear_inserts (in_order h))
  none_waits = each-from_among (λ y. same y.parent (stamp_of o) ≡ false) (clear_inserts (in_order h))
      (λ y m. let a : y.parent.counter < y.stamp.counter = older h lawful y m in let b : y.stamp.counter < (stamp_of o).counter = below y m in before-apart_left y.parent (stamp_of o) (counter-before y.parent (stamp_of o) (omega arith)))

  -- an operation that is no delete deletes nothing
  deleted_old : (t : Stamp) → ((s : Stamp) → o ≡ Delete s t → ⊥) → is_deleted_in (with_op h o) t ≡ is_deleted_in h t
  deleted_old t other = same_bool (is_deleted_in (with_op h o) t) (is_deleted_in h t) (λ e. to (deleted_from (with_op h o) t e)) (λ e. let r = deleted_from h t e in deleted_by (with_op h o) t (r.0, clear_old h o fresh (Delete r.0 t) r.1))
    where
      to : (s : Stamp) × IsClearOp (with_op h o) (Delete s t) → is_deleted_in h t ≡ true
      to r = which (clear_new h o fresh (Delete r.0 t) r.1)
        where
          which : (o ≡ Delete r.0 t) ⊎ IsClearOp h (Delete r.0 t) → is_deleted_in h t ≡ true
          which (inl e) = absurd (other r.0 e)
          which (inr c) = deleted_by h t (r.0, c)

  -- one that is no insert leaves the walk
  pub inserts_stay : ((x : Insertion) → o ≡ insert_of x → ⊥) → clear_inserts_of (with_op h o) ≡ clear_inserts_of h
  inserts_stay other = ascending-same (clear_inserts (in_order (with_op h o))) (clear_inserts (in_order h)) (clear_ascending (with_op h o)) (clear_ascending h)
      (λ x m. to x (clear_new h o fresh (insert_of x) (op_from_insert (with_op h o) x m)))
      (λ x m. insert_from_op (with_op h o) x (clear_old h o fresh (insert_of x) (op_from_insert h x m)))
    where
      to : (x : Insertion) → (o ≡ insert_of x) ⊎ IsClearOp h (insert_of x) → Among x (clear_inserts (in_order h))
      to x (inl e) = absurd (other x e)
      to x (inr c) = insert_from_op h x c

  pub walk_stays : ((x : Insertion) → o ≡ insert_of x → ⊥) → walk_of (with_op h o) ≡ walk_of h
  unfolding walk live_inserts
  walk_stays other = ap (λ cs. walk_from (filter (λ x. same (way_end (reverse cs) x.parent) head) cs) head) (inserts_stay other)

-- ---- a new insert, delete, set

module _ (h : OpSet) (lawful : AllLawful h) (s : Stamp) (newest : greatest_counter_of h < s.counter) where
  not_deleted : is_deleted_in h s ≡ false
  not_deleted = by_cases (is_deleted_in h s) (λ e. absurd (go (deleted_from h s e))) (λ e. e)
    where
      go : (t : Stamp) × IsClearOp h (Delete t s) → ⊥
      go r =
          let own : IsLawful (Delete r.0 s) = each-among IsLawful (in_order h) (Delete r.0 s) lawful (among_held h (Delete r.0 s) r.1.0) in
          let a : s.counter < r.0.counter = own.2 in
          let b : r.0.counter ≤ greatest_counter_of h = counter_within h (Delete r.0 s) r.1.0 in
          omega arith

  parent_not_head : (p : Stamp) (j : ℕ) → j < length (filter (λ x. not (is_deleted_in h x.stamp)) (walk_of h)) → get_or (map (λ (x : Insertion). x.stamp) (filter (λ x. not (is_deleted_in h x.stamp)) (walk_of h))) j head ≡ p → same head p ≡ false
  parent_not_head p j lt is = same-symm head p ∙ subst (λ q. same q head ≡ false) is (at_apart (filter (λ x. not (is_deleted_in h x.stamp)) (walk_of h)) head
      (each-filter (λ z. same z.stamp head ≡ false) (λ x. not (is_deleted_in h x.stamp)) (walk_of h) (each-from_among (λ z. same z.stamp head ≡ false) (walk_of h) (λ z m. each-among (λ z. same z.stamp head ≡ false) (live_inserts (in_order h)) z (live_grows (in_order h) lawful).1 (walk-live (in_order h) z m)))) j lt)

  no_delete : (p : Stamp) (y : Symbol) (u : Stamp) (t : Stamp) → Insert s p y ≡ Delete t u → ⊥
  no_delete p y u t e = cc

  pub insert_shows : (p : Stamp) (y : Symbol) → IsLawful (Insert s p y) → (i : ℕ) → IsParentAt h i p → shown_of (with_op h (Insert s p y)) ≡ insert (shown_of h) i (record { stamp = s; parent = p; symbol = y })
  unfolding shown
  insert_shows p y own i at =
      (λ k. filter (λ x. not (deleted_old h lawful (Insert s p y) newest x.stamp (no_delete p y x.stamp) k)) (walk_of (with_op h (Insert s p y))))
      ∙ ap (filter (λ x. not (is_deleted_in h x.stamp))) (walk_after h (Insert s p y) new refl (fresh h lawful (Insert s p y) newest) lawful own (none_waits h lawful (Insert s p y) newest))
      ∙ placed at
    where
      new : Insertion
      new = record { stamp = s; parent = p; symbol = y }

      keeps : not (is_deleted_in h s) ≡ true
      keeps = ap not not_deleted

      placed : IsParentAt h i p → filter (λ x. not (is_deleted_in h x.stamp)) (scan_insert new (walk_of h)) ≡ insert (filter (λ x. not (is_deleted_in h x.stamp)) (walk_of h)) i new
      placed (inl z) =
          ap (filter (λ x. not (is_deleted_in h x.stamp))) (place-hit head new (walk_of h) (same-from head p (sym z.1)) ∙ skip_front new (walk_of h) (walk_older h lawful (Insert s p y) newest))
          ∙ filter-hit (λ x. not (is_deleted_in h x.stamp)) new (walk_of h) keeps
          ∙ ap (λ n. insert (filter (λ x. not (is_deleted_in h x.stamp)) (walk_of h)) n new) (sym z.0)
      placed (inr z) =
          let q : i ≡ z.0 + 1 = z.1 in
          let e : i ≡ suc z.0 = omega arith in
          ap (filter (λ x. not (is_deleted_in h x.stamp))) (place-miss head new (walk_of h) (parent_not_head p z.0 z.2 z.3))
          ∙ after_kept (λ x. not (is_deleted_in h x.stamp)) new keeps (walk_of h) (walk-apart h lawful) (walk_older h lawful (Insert s p y) newest) z.0 z.2 z.3
          ∙ ap (λ n. insert (filter (λ x. not (is_deleted_in h x.stamp)) (walk_of h)) n new) (sym e)

  no_insert : (t : Stamp) (x : Insertion) → Delete s t ≡ insert_of x → ⊥
  no_insert t x e = cc

  deleted_more : (t u : Stamp) → is_deleted_in (with_op h (Delete s t)) u ≡ (same t u || is_deleted_in h u)
  deleted_more t u = same_bool (is_deleted_in (with_op h (Delete s t)) u) (same t u || is_deleted_in h u) (λ e. to (deleted_from (with_op h (Delete s t)) u e)) from
    where
      to : (r : Stamp) × IsClearOp (with_op h (Delete s t)) (Delete r u) → (same t u || is_deleted_in h u) ≡ true
      to r = which (clear_new h (Delete s t) (fresh h lawful (Delete s t) newest) (Delete r.0 u) r.1)
        where
          which : (Delete s t ≡ Delete r.0 u) ⊎ IsClearOp h (Delete r.0 u) → (same t u || is_deleted_in h u) ≡ true
          which (inl e) = let i : t ≡ u = cc in ap (λ b. b || is_deleted_in h u) (same-from t u i)
          which (inr c) = or_right (same t u) (is_deleted_in h u) (deleted_by h u (r.0, c))

      from : (same t u || is_deleted_in h u) ≡ true → is_deleted_in (with_op h (Delete s t)) u ≡ true
      from e = by_cases (same t u)
          (λ k. deleted_by (with_op h (Delete s t)) u (s, subst (λ v. IsClearOp (with_op h (Delete s t)) (Delete s v)) (same-true t u k) (own_clear h (Delete s t) (fresh h lawful (Delete s t) newest))))
          (λ k. let r = deleted_from h u (sym (ap (λ b. b || is_deleted_in h u) k) ∙ e) in deleted_by (with_op h (Delete s t)) u (r.0, clear_old h (Delete s t) (fresh h lawful (Delete s t) newest) (Delete r.0 u) r.1))

  pub delete_shows : (t : Stamp) (i : ℕ) → i < length (shown_of h) → get_or (map (λ (x : Insertion). x.stamp) (shown_of h)) i head ≡ t → shown_of (with_op h (Delete s t)) ≡ remove (shown_of h) i
  unfolding shown
  delete_shows t i lt is =
      ap (filter (λ x. not (is_deleted_in (with_op h (Delete s t)) x.stamp))) (walk_stays h lawful (Delete s t) newest (no_insert t))
      ∙ (λ k. filter (λ x. not (deleted_more t x.stamp k)) (walk_of h))
      ∙ without_at (is_deleted_in h) t (walk_of h) (walk-apart h lawful) i lt is

  no_insert_set : (key : Key) (v : ℕ) (x : Insertion) → Set s key v ≡ insert_of x → ⊥
  no_insert_set key v x e = cc

  no_delete_set : (key : Key) (v : ℕ) (u : Stamp) (t : Stamp) → Set s key v ≡ Delete t u → ⊥
  no_delete_set key v u t e = cc

  pub set_shows : (key : Key) (v : ℕ) → shown_of (with_op h (Set s key v)) ≡ shown_of h
  unfolding shown
  set_shows key v =
      ap (filter (λ x. not (is_deleted_in (with_op h (Set s key v)) x.stamp))) (walk_stays h lawful (Set s key v) newest (no_insert_set key v))
      ∙ (λ k. filter (λ x. not (deleted_old h lawful (Set s key v) newest x.stamp (no_delete_set key v x.stamp) k)) (walk_of h))
