-- Steps of a drain, and its end.
use Rattle.std.proofs.Common.{◌≡◌, ℕ, zero, suc, ◌+◌, ◌-◌, ◌<◌, ◌≤◌, Bool, true, false, cond, List, ◌∷◌, map, length, get_or, refl, sym, ap, ◌∙◌, subst, ◌⊎◌, inl, inr, Some, arith}
use Rattle.std.specs.List.{insert, AllByRecursion}
use Rattle.std.proofs.lemmas.Bool.{true≢false, cases_eq, cases_order}
use Rattle.desk_ops.specs.declared.op.Stamp.{Stamp}
use Rattle.desk_ops.specs.declared.op.Op.{Op}
use Rattle.desk_ops.specs.declared.op.Op.TheVariants.{Insert, Delete, Set}
use Rattle.desk_ops.specs.Stamp.{same, head}
use Rattle.desk_ops.specs.Op.{stamp_of, target_of, Insertion, insertion}
use Rattle.desk_ops.specs.OpSet.{OpSet, has_op, in_order, size, AllLawful}
use Rattle.desk_ops.specs.Lists.{Among}
use Rattle.desk_ops.specs.Held.{clear_inserts, live_inserts}
use Rattle.desk_ops.specs.Live.{insert_of, IsClearOp, IsLiveOp, IsOfLiveInsert}
use Rattle.desk_ops.specs.Walk.{walk_from, walk, walk_of}
use Rattle.desk_ops.specs.Scan.{with_insert}
use Rattle.desk_ops.specs.Place.{IsPlace, IsStart}
use Rattle.desk_ops.specs.Shown.{is_deleted_in}
use Rattle.desk_ops.specs.Drain.{IsThere, IsDrained}
use Rattle.desk_ops.proofs.Stamps.{by_cases, same-true, same-from, same-refl}
use Rattle.desk_ops.proofs.Lists.{each-among, each-from_among}
use Rattle.desk_ops.proofs.Means.{clear_one, clear_grows, some-same}
use Rattle.desk_ops.proofs.Arrive.{among-with_insert, with_insert-among}
use Rattle.desk_ops.proofs.Ends.{among_held, insert_from_op, op_from_insert}
use Rattle.desk_ops.proofs.Joined.{same_bool, within-with_op, with-cases}
use Rattle.desk_ops.proofs.Unions.{size-with_op}
use Rattle.desk_ops.proofs.Deletes.{deleted_from, deleted_by}
use Rattle.desk_ops.proofs.Drains.{drained, taken_in, walk_taken}
use Rattle.desk_ops.proofs.Places.{scan-at}
use Rattle.desk_walk.specs.Waiting.{IsReleased, waits_for}
use Rattle.desk_seq.specs.declared.Entry.{Entry}
use Rattle.desk_seq.specs.Entries.{stamps_of, IsAbsent, AreDistinct, IsFirstBelow, with_mark}
use Rattle.desk_seq.proofs.Entries.{map-insert, length-stamps, stamps-mark}
use Rattle.desk_walk.specs.Following.{entries_of, bare, bare_of, places, place_at, new_entry, IsWaiting, IsSettled, IsFollowing, IsFree, IsDraining, IsWithout, IsActed, CanAct}
use Rattle.desk_walk.proofs.Lists.{among-map, map-among, among-insert, insert-among, among-at, at-among, among-walk_from, length-insert, insert-low, insert-high, bare-mark, stamps-walk, entries-are, absent-from, one-place, among-mark}
use Rattle.desk_walk.proofs.Arrivals.{delete-target, live-by_target}

-- two clear operations of one stamp are one
pub one-clear : (h : OpSet) (a b : Op) → IsClearOp h a → IsClearOp h b → stamp_of a ≡ stamp_of b → a ≡ b
one-clear h a b c d e = clear_one (in_order h) (stamp_of a) c.1 a b (among_held h a c.0) (among_held h b d.0) (same-refl (stamp_of a)) (same-from (stamp_of b) (stamp_of a) (sym e))

insert-same : (x y : Insertion) → insert_of x ≡ insert_of y → x ≡ y
insert-same x y e = some-same x y (ap insertion e)

module _ (h : OpSet) (lawful : AllLawful h) (waits : Op → Bool) (es : List Entry) (f : IsFollowing h waits es) where
  stamps-are : stamps_of es ≡ map (λ (x : Insertion). x.stamp) (walk_from f.inserts head)
  stamps-are = stamps-walk es (walk_from f.inserts head) f.walk

  -- an element is one of the inserts
  pub of_insert : (t : Stamp) → Among t (stamps_of es) → (y : Insertion) × Among y f.inserts × (y.stamp ≡ t)
  of_insert t m = go (among-map (λ (x : Insertion). x.stamp) (walk_from f.inserts head) t (subst (Among t) stamps-are m))
    where
      go : ((y : Insertion) × Among y (walk_from f.inserts head) × (y.stamp ≡ t)) → (y : Insertion) × Among y f.inserts × (y.stamp ≡ t)
      go r = (r.0, among-walk_from f.inserts head r.0 r.1, r.2)

  there : (j : ℕ) → j < length (places es) → IsThere f.inserts (place_at es j)
  there zero lt = inl refl
  there (suc j) lt = inr (of_insert (get_or (stamps_of es) j head) (among-at (stamps_of es) j (omega arith)))

  pub place-of : (t : Stamp) → IsThere f.inserts t → (j : ℕ) × (j < length (places es)) × (place_at es j ≡ t)
  place-of t (inl e) = (0, omega arith, sym e)
  place-of t (inr y) = go (at-among (stamps_of es) t (subst (λ u. Among u (stamps_of es)) y.2 (f.whole y.0 y.1)))
    where
      go : ((j : ℕ) × (j < length (stamps_of es)) × (get_or (stamps_of es) j head ≡ t)) → (j : ℕ) × (j < length (places es)) × (place_at es j ≡ t)
      go r = let l : r.0 < length (stamps_of es) = r.1 in (suc r.0, omega arith, r.2)

  clear-insert : (y : Insertion) → Among y f.inserts → IsClearOp h (insert_of y)
  clear-insert y m = op_from_insert h y (f.taken.of_set y m)

  -- an insert that waits is not there yet
  pub fresh : (e : Insertion) → waits (insert_of e) ≡ true → Among e.stamp (stamps_of es) → ⊥
  fresh e w m = go (of_insert e.stamp m)
    where
      go : ((y : Insertion) × Among y f.inserts × (y.stamp ≡ e.stamp)) → ⊥
      go y = true≢false (sym w ∙ ap waits (sym (one-clear h (insert_of y.0) (insert_of e) (clear-insert y.0 y.1) (f.clear (insert_of e) w) y.2)) ∙ f.apart y.0 y.1)

  pub absent : (e : Insertion) → waits (insert_of e) ≡ true → IsAbsent e.stamp es
  absent e w = absent-from e.stamp es (fresh e w) (λ t k. same-true t e.stamp k)

  not-head_stamp : (t : Stamp) → Among t (stamps_of es) → same head t ≡ false
  not-head_stamp t m = go (of_insert t m)
    where
      go : ((y : Insertion) × Among y f.inserts × (y.stamp ≡ t)) → same head t ≡ false
      go y = by_cases (same head t)
          (λ k. absurd (true≢false (sym (same-from y.0.stamp head (y.2 ∙ sym (same-true head t k))) ∙ each-among (λ x. same x.stamp head ≡ false) (clear_inserts (in_order h)) y.0 (clear_grows (in_order h) lawful).1 (f.taken.of_set y.0 y.1))))
          (λ k. k)

  -- where the scan begins
  pub starts : AreDistinct es → (at : ℕ) → at ≤ length es → IsStart (stamps_of es) (place_at es at) at
  starts d zero le = inl (refl, refl)
  starts d (suc k) le =
      let n : length (stamps_of es) ≡ length es = length-stamps es in
      let lt : k < length (stamps_of es) = omega arith in
      inr (not-head_stamp (get_or (stamps_of es) k head) (among-at (stamps_of es) k lt), k, sym (let e : k + 1 ≡ suc k = omega arith in e), lt, refl, none)
    where
      none : (j : ℕ) → j < k → same (get_or (stamps_of es) j head) (get_or (stamps_of es) k head) ≡ false
      none j l = by_cases (same (get_or (stamps_of es) j head) (get_or (stamps_of es) k head))
          (λ s. let i : j ≡ k = one-place es d j k (omega arith) (omega arith) (same-true (get_or (stamps_of es) j head) (get_or (stamps_of es) k head) s) in absurd (omega arith))
          (λ s. s)

  -- ---- the end

  module _ (nothing : (j : ℕ) → j < length (places es) → IsFree waits es j) where
    no-waiter : (o : Op) (t : Stamp) → waits o ≡ true → target_of o ≡ Some t → IsThere f.inserts t → ⊥
    no-waiter o t w e l = let r = place-of t l in nothing r.0 r.1 o w (e ∙ ap Some (sym r.2))

    is_drained : IsDrained h f.inserts
    is_drained = record { taken = f.taken; no_more = λ x m l. go x l (f.untaken x (op_from_insert h x m)) }
      where
        go : (x : Insertion) → IsThere f.inserts x.parent → Among x f.inserts ⊎ (waits (insert_of x) ≡ true) → Among x f.inserts
        go x l (inl m) = m
        go x l (inr w) = absurd (no-waiter (insert_of x) x.parent w refl l)

    live : f.inserts ≡ live_inserts (in_order h)
    live = drained h lawful f.inserts is_drained

    is-live : (t : Stamp) → IsThere f.inserts t → (t ≡ head) ⊎ IsOfLiveInsert h t
    is-live t (inl e) = inl e
    is-live t (inr y) = inr (y.0, subst (Among y.0) live y.1, y.2)

    of_live : (t : Stamp) → (t ≡ head) ⊎ IsOfLiveInsert h t → IsThere f.inserts t
    of_live t (inl e) = inl e
    of_live t (inr y) = inr (y.0, subst (Among y.0) (sym live) y.1, y.2)

    pub settled-entries : es ≡ entries_of h
    unfolding walk
    settled-entries = entries-are h es (walk_of h) (f.walk ∙ ap (λ xs. map bare_of (walk_from xs head)) live) mark
      where
        mark : (e : Entry) → Among e es → e.deleted ≡ is_deleted_in h e.stamp
        mark e m = same_bool e.deleted (is_deleted_in h e.stamp)
            (λ k. let r = (f.marks e m).0 k in deleted_by h e.stamp (r.0, r.1))
            (λ k. let r = deleted_from h e.stamp k in (f.marks e m).1 (
              r.0,
              r.1,
              by_cases (waits (Delete r.0 e.stamp))
                  (λ w. absurd (no-waiter (Delete r.0 e.stamp) e.stamp w refl (inr (of_insert e.stamp (map-among (λ (g : Entry). g.stamp) es e m)))))
                  (λ w. w),
            ))

    waiter : (o : Op) → waits o ≡ true → IsLiveOp h o → ⊥
    waiter (Insert s p y) w l = no-waiter (Insert s p y) p w refl (of_live p l.1)
    waiter (Delete s t) w l = no-waiter (Delete s t) t w refl (of_live t (inr l.1))
    waiter (Set s k v) w l = true≢false (sym (f.targets (Set s k v) w))

    waiting : (o : Op) → IsWaiting h o → waits o ≡ true
    waiting (Insert s p y) k = go (f.untaken x k.clear)
      where
        x : Insertion
        x = record { stamp = s; parent = p; symbol = y }

        go : Among x f.inserts ⊎ (waits (insert_of x) ≡ true) → waits (insert_of x) ≡ true
        go (inl m) = absurd (k.not_live (k.clear, is-live p (f.taken.closed x m)))
        go (inr w) = w
    waiting (Delete s t) k = go (f.deletes s t k.clear)
      where
        go : (waits (Delete s t) ≡ true) ⊎ Among t (stamps_of es) → waits (Delete s t) ≡ true
        go (inl w) = w
        go (inr m) = absurd (k.not_live (live-by_target h lawful (Delete s t) k.clear t refl (is-live t (inr (of_insert t m)))))
    waiting (Set s key v) k = absurd (k.not_live (k.clear, tt))

    pub settled-waits : (o : Op) → (waits o ≡ true → IsWaiting h o) × (IsWaiting h o → waits o ≡ true)
    settled-waits o = ((λ w. record { clear = f.clear o w; not_live = waiter o w }), waiting o)

  -- ---- a step

  module _ (at : ℕ) (within : at ≤ length es) (distinct : AreDistinct es) (now : Op → Bool) where
    module _ (e : Insertion) (w : waits (insert_of e) ≡ true) (on : e.parent ≡ place_at es at) (out : IsWithout waits now (insert_of e))
        (place : ℕ) (b : IsFirstBelow (stamps_of es) at e.stamp place) where
      abbrev pub new : Entry
      new = new_entry e.stamp e.symbol

      le : place ≤ length (stamps_of es)
      le = b.within

      is_place : IsPlace (map (λ (x : Insertion). x.stamp) (walk_from f.inserts head)) e.parent e.stamp place
      is_place = subst (λ ts. IsPlace ts e.parent e.stamp place) stamps-are
          (record { start = at; starts = subst (λ p. IsStart (stamps_of es) p at) (sym on) (starts distinct at within); after = b.after; within = b.within; skipped = b.skipped; stops = b.stops })

      clear : Among e (clear_inserts (in_order h))
      clear = insert_from_op h e (f.clear (insert_of e) w)

      new-stamp : AllByRecursion (λ x. same x.stamp e.stamp ≡ false) f.inserts
      new-stamp = each-from_among (λ x. same x.stamp e.stamp ≡ false) f.inserts
          (λ x m. by_cases (same x.stamp e.stamp) (λ k. absurd (fresh e w (subst (λ t. Among t (stamps_of es)) (same-true x.stamp e.stamp k) (f.whole x m)))) (λ k. k))

      under : IsThere f.inserts e.parent
      under = subst (IsThere f.inserts) (sym on) (there at (let n : length (stamps_of es) ≡ length es = length-stamps es in omega arith))

      stamps-new : stamps_of (insert es place new) ≡ insert (stamps_of es) place e.stamp
      stamps-new = map-insert (λ (g : Entry). g.stamp) es place new

      more : (t : Stamp) → Among t (stamps_of es) → Among t (stamps_of (insert es place new))
      more t m = subst (Among t) (sym stamps-new) (insert-among (stamps_of es) place e.stamp t (inr m))

      -- of another operation nothing changed
      other : (q : Op) → (insert_of e ≡ q → ⊥) → waits q ≡ true → now q ≡ true
      other q none w2 = go (out.rest q w2)
        where
          go : (insert_of e ≡ q) ⊎ (now q ≡ true) → now q ≡ true
          go (inl i) = absurd (none i)
          go (inr k) = k

      pub put : IsFollowing h now (insert es place new)
      put = record {
        inserts = with_insert e f.inserts;
        taken = taken_in h lawful f.inserts f.taken e clear new-stamp under;
        walk = map-insert bare es place new ∙ ap (λ l. insert l place (bare new)) f.walk ∙ sym (map-insert bare_of (walk_from f.inserts head) place e)
            ∙ ap (map bare_of) (sym (walk_taken h lawful f.inserts f.taken e clear new-stamp ∙ scan-at e (walk_from f.inserts head) place is_place));
        whole = λ x m. whole x (among-with_insert e f.inserts x m);
        marks = λ g m. marks g (among-insert es place new g m);
        clear = λ q k. f.clear q (out.within q k);
        targets = λ q k. f.targets q (out.within q k);
        untaken = λ x c. untaken x (f.untaken x c);
        apart = λ x m. by_cases (now (insert_of x)) (λ k. absurd (apart x (among-with_insert e f.inserts x m) k)) (λ k. k);
        deletes = λ s t c. deletes s t (f.deletes s t c);
      }
        where
          whole : (x : Insertion) → (e ≡ x) ⊎ Among x f.inserts → Among x.stamp (stamps_of (insert es place new))
          whole x (inl i) = subst (Among x.stamp) (sym stamps-new) (insert-among (stamps_of es) place e.stamp x.stamp (inl (ap (λ (y : Insertion). y.stamp) i)))
          whole x (inr m) = more x.stamp (f.whole x m)

          marks : (g : Entry) → (new ≡ g) ⊎ Among g es → ((g.deleted ≡ true → (s : Stamp) × IsClearOp h (Delete s g.stamp) × (now (Delete s g.stamp) ≡ false))
              × ((s : Stamp) × IsClearOp h (Delete s g.stamp) × (now (Delete s g.stamp) ≡ false) → g.deleted ≡ true))
          marks g (inl i) = ((λ k. absurd (true≢false (sym k ∙ sym (ap (λ (x : Entry). x.deleted) i)))), none)
            where
              none : (s : Stamp) × IsClearOp h (Delete s g.stamp) × (now (Delete s g.stamp) ≡ false) → g.deleted ≡ true
              none r = go (f.deletes r.0 g.stamp r.1)
                where
                  go : (waits (Delete r.0 g.stamp) ≡ true) ⊎ Among g.stamp (stamps_of es) → g.deleted ≡ true
                  go (inl k) = absurd (true≢false (sym (other (Delete r.0 g.stamp) (λ j. cc) k) ∙ r.2))
                  go (inr m) = absurd (fresh e w (subst (λ t. Among t (stamps_of es)) (sym (ap (λ (x : Entry). x.stamp) i)) m))
          marks g (inr m) = (to, from)
            where
              to : g.deleted ≡ true → (s : Stamp) × IsClearOp h (Delete s g.stamp) × (now (Delete s g.stamp) ≡ false)
              to k = let r = (f.marks g m).0 k in (r.0, r.1, by_cases (now (Delete r.0 g.stamp)) (λ n. absurd (true≢false (sym (out.within (Delete r.0 g.stamp) n) ∙ r.2))) (λ n. n))

              from : (s : Stamp) × IsClearOp h (Delete s g.stamp) × (now (Delete s g.stamp) ≡ false) → g.deleted ≡ true
              from r = (f.marks g m).1 (r.0, r.1, by_cases (waits (Delete r.0 g.stamp)) (λ n. absurd (true≢false (sym (other (Delete r.0 g.stamp) (λ j. cc) n) ∙ r.2))) (λ n. n))

          untaken : (x : Insertion) → Among x f.inserts ⊎ (waits (insert_of x) ≡ true) → Among x (with_insert e f.inserts) ⊎ (now (insert_of x) ≡ true)
          untaken x (inl m) = inl (with_insert-among e f.inserts x (inr m))
          untaken x (inr k) = go (out.rest (insert_of x) k)
            where
              go : (insert_of e ≡ insert_of x) ⊎ (now (insert_of x) ≡ true) → Among x (with_insert e f.inserts) ⊎ (now (insert_of x) ≡ true)
              go (inl i) = inl (with_insert-among e f.inserts x (inl (insert-same e x i)))
              go (inr n) = inr n

          apart : (x : Insertion) → (e ≡ x) ⊎ Among x f.inserts → now (insert_of x) ≡ true → ⊥
          apart x (inl i) k = true≢false (sym k ∙ ap (λ y. now (insert_of y)) (sym i) ∙ out.gone)
          apart x (inr m) k = true≢false (sym (out.within (insert_of x) k) ∙ f.apart x m)

          deletes : (s t : Stamp) → (waits (Delete s t) ≡ true) ⊎ Among t (stamps_of es) → (now (Delete s t) ≡ true) ⊎ Among t (stamps_of (insert es place new))
          deletes s t (inl k) = inl (other (Delete s t) (λ j. cc) k)
          deletes s t (inr m) = inr (more t m)

      module _ (last : ℕ) (rest : (j : ℕ) → j < length (places es) → (j < at) ⊎ (last < j) → IsFree waits es j) (reach : ℕ) (over : place < reach) (further : last < reach) where
        pub put-rest : (j : ℕ) → j < length (places (insert es place new)) → (j < at) ⊎ (reach < j) → IsFree now (insert es place new) j
        put-rest j lt (inl l) = λ q k i. rest j (let n : length (stamps_of es) ≡ length es = length-stamps es in omega arith) (inl l) q (out.within q k) (i ∙ ap Some (low j l))
          where
            low : (j : ℕ) → j < at → place_at (insert es place new) j ≡ place_at es j
            low zero l = refl
            low (suc j) l = ap (λ (ts : List Stamp). get_or ts j head) stamps-new ∙ insert-low (stamps_of es) place e.stamp j (let a : at ≤ place = b.after in omega arith) le
        put-rest zero lt (inr l) = absurd (omega arith)
        put-rest (suc zero) lt (inr l) = absurd (omega arith)
        put-rest (suc (suc j)) lt (inr l) = λ q k i.
            let m : length (stamps_of (insert es place new)) ≡ suc (length (stamps_of es)) = ap length stamps-new ∙ length-insert (stamps_of es) place e.stamp in
            rest (suc j) (omega arith) (inr (omega arith)) q (out.within q k)
            (i ∙ ap Some (ap (λ (ts : List Stamp). get_or ts (suc j) head) stamps-new ∙ insert-high (stamps_of es) place e.stamp j (omega arith) le))

    module _ (s t : Stamp) (w : waits (Delete s t) ≡ true) (k : ℕ) (is : at ≡ suc k) (on : t ≡ place_at es at) (out : IsWithout waits now (Delete s t)) where
      at-k : t ≡ get_or (stamps_of es) k head
      at-k = on ∙ ap (place_at es) is

      here : Among t (stamps_of es)
      here = subst (λ u. Among u (stamps_of es)) (sym at-k) (among-at (stamps_of es) k (let n : length (stamps_of es) ≡ length es = length-stamps es in omega arith))

      still : (q : Op) → waits q ≡ true → (Delete s t ≡ q → ⊥) → now q ≡ true
      still q w2 none = go (out.rest q w2)
        where
          go : (Delete s t ≡ q) ⊎ (now q ≡ true) → now q ≡ true
          go (inl i) = absurd (none i)
          go (inr n) = n

      same-stamps : stamps_of (with_mark es k) ≡ stamps_of es
      same-stamps = stamps-mark es k

      pub mark : IsFollowing h now (with_mark es k)
      mark = record {
        inserts = f.inserts;
        taken = f.taken;
        walk = bare-mark es k ∙ f.walk;
        whole = λ x m. subst (Among x.stamp) (sym same-stamps) (f.whole x m);
        marks = λ g m. marks g (among-mark es k distinct (omega arith) g m);
        clear = λ q n. f.clear q (out.within q n);
        targets = λ q n. f.targets q (out.within q n);
        untaken = λ x c. untaken x (f.untaken x c);
        apart = λ x m. by_cases (now (insert_of x)) (λ n. absurd (true≢false (sym (out.within (insert_of x) n) ∙ f.apart x m))) (λ n. n);
        deletes = λ a u c. deletes a u (f.deletes a u c);
      }
        where
          marks : (g : Entry) → ((g.stamp ≡ get_or (stamps_of es) k head) × (g.deleted ≡ true)) ⊎ (Among g es × (g.stamp ≡ get_or (stamps_of es) k head → ⊥))
              → ((g.deleted ≡ true → (a : Stamp) × IsClearOp h (Delete a g.stamp) × (now (Delete a g.stamp) ≡ false))
              × ((a : Stamp) × IsClearOp h (Delete a g.stamp) × (now (Delete a g.stamp) ≡ false) → g.deleted ≡ true))
          marks g (inl r) = ((λ n. subst (λ (u : Stamp). (a : Stamp) × IsClearOp h (Delete a u) × (now (Delete a u) ≡ false)) (at-k ∙ sym r.0) (s, f.clear (Delete s t) w, out.gone)), (λ n. r.1))
          marks g (inr r) = (to, from)
            where
              to : g.deleted ≡ true → (a : Stamp) × IsClearOp h (Delete a g.stamp) × (now (Delete a g.stamp) ≡ false)
              to n = let d = (f.marks g r.0).0 n in (d.0, d.1, by_cases (now (Delete d.0 g.stamp)) (λ m. absurd (true≢false (sym (out.within (Delete d.0 g.stamp) m) ∙ d.2))) (λ m. m))

              from : (a : Stamp) × IsClearOp h (Delete a g.stamp) × (now (Delete a g.stamp) ≡ false) → g.deleted ≡ true
              from d = (f.marks g r.0).1 (
                d.0,
                d.1,
                by_cases (waits (Delete d.0 g.stamp))
                    (λ m. absurd (true≢false (sym (still (Delete d.0 g.stamp) m (λ i. r.1 (let j : g.stamp ≡ t = cc in j ∙ at-k))) ∙ d.2)))
                    (λ m. m),
              )

          untaken : (x : Insertion) → Among x f.inserts ⊎ (waits (insert_of x) ≡ true) → Among x f.inserts ⊎ (now (insert_of x) ≡ true)
          untaken x (inl m) = inl m
          untaken x (inr n) = inr (still (insert_of x) n (λ i. cc))

          deletes : (a u : Stamp) → (waits (Delete a u) ≡ true) ⊎ Among u (stamps_of es) → (now (Delete a u) ≡ true) ⊎ Among u (stamps_of (with_mark es k))
          deletes a u (inl n) = go (out.rest (Delete a u) n)
            where
              go : (Delete s t ≡ Delete a u) ⊎ (now (Delete a u) ≡ true) → (now (Delete a u) ≡ true) ⊎ Among u (stamps_of (with_mark es k))
              go (inl i) = inr (subst (Among u) (sym same-stamps) (subst (λ v. Among v (stamps_of es)) (let j : t ≡ u = cc in j) here))
              go (inr m) = inl m
          deletes a u (inr m) = inr (subst (Among u) (sym same-stamps) m)

      pub mark-rest : (last : ℕ) → ((j : ℕ) → j < length (places es) → (j < at) ⊎ (last < j) → IsFree waits es j) → (j : ℕ) → j < length (places (with_mark es k)) → (j < at) ⊎ (last < j) → IsFree now (with_mark es k) j
      mark-rest last rest j lt o = λ q n i. rest j (subst (λ (ts : List Stamp). j < length (head ∷ ts)) same-stamps lt) o q (out.within q n) (i ∙ ap (λ (ts : List Stamp). Some (get_or (head ∷ ts) j head)) same-stamps)

-- ---- a step, in the words of the room

module _ (old after : OpSet) (s : Stamp) (op : Op) (r : IsReleased old after s op) where
  pub without : IsWithout (has_op old) (has_op after) op
  without = record {
    rest = λ q e. with-cases after op q (subst (λ h. has_op h q ≡ true) r.rest e);
    within = λ q e. subst (λ h. has_op h q ≡ true) (sym r.rest) (within-with_op after op q e);
    gone = r.gone;
  }

  pub size-less : size old ≡ size after + 1
  size-less = ap size r.rest ∙ size-with_op after op ∙ ap (λ b. cond b (size after) (size after + 1)) r.gone

module _ (h : OpSet) (lawful : AllLawful h) (old after : OpSet) (es : List Entry) (at last : ℕ) (d : IsDraining h (has_op old) es at last) (within : at ≤ length es) (distinct : AreDistinct es) where
  pub acts : (op : Op) → IsReleased old after (place_at es at) op → (fs : List Entry) (reach : ℕ) → IsActed op at last es fs reach → IsDraining h (has_op after) fs at reach
  acts (Insert s p y) r fs reach a =
      let e : Insertion = record { stamp = s; parent = p; symbol = y } in
      let on : p ≡ place_at es at = (let t = r.target in cc) in
      let out = without old after (place_at es at) (Insert s p y) r in
      record {
        follows = subst (IsFollowing h (has_op after)) (sym a.2) (put h lawful (has_op old) es d.follows at within distinct (has_op after) e r.held on out a.0 a.1);
        rest = subst (λ (gs : List Entry). (j : ℕ) → j < length (places gs) → (j < at) ⊎ (reach < j) → IsFree (has_op after) gs j) (sym a.2) (put-rest h lawful (has_op old) es d.follows at within distinct (has_op after) e r.held on out a.0 a.1 last d.rest reach a.3 a.4);
      }
  acts (Delete s t) r fs reach a =
      let on : t ≡ place_at es at = (let u = r.target in cc) in
      let out = without old after (place_at es at) (Delete s t) r in
      let pos : 0 < at = not-first t s r.held on in
      let is : at ≡ suc (at - 1) = omega arith in
      record {
        follows = subst (IsFollowing h (has_op after)) (sym a.0) (mark h lawful (has_op old) es d.follows at within distinct (has_op after) s t r.held (at - 1) is on out);
        rest = subst (λ (gs : List Entry). (j : ℕ) → j < length (places gs) → (j < at) ⊎ (reach < j) → IsFree (has_op after) gs j) (sym a.0)
            (subst (λ (n : ℕ). (j : ℕ) → j < length (places (with_mark es (at - 1))) → (j < at) ⊎ (n < j) → IsFree (has_op after) (with_mark es (at - 1)) j) (sym a.1)
            (mark-rest h lawful (has_op old) es d.follows at within distinct (has_op after) s t r.held (at - 1) is on out last d.rest));
      }
    where
      not-first : (t s : Stamp) → has_op old (Delete s t) ≡ true → t ≡ place_at es at → 0 < at
      not-first t s w on = go at on
        where
          go : (n : ℕ) → t ≡ place_at es n → 0 < n
          go zero e = absurd (delete-target h lawful s t (d.follows.clear (Delete s t) w).0 e)
          go (suc n) e = omega arith
  acts (Set s k v) r fs reach a = absurd (true≢false (sym (d.follows.targets (Set s k v) r.held)))

  pub able : (op : Op) (free : ℕ) → IsReleased old after (place_at es at) op → size old ≤ free → CanAct op at free es
  able (Insert s p y) free r le = (let n : size old ≡ size after + 1 = size-less old after (place_at es at) (Insert s p y) r in omega arith, absent h lawful (has_op old) es d.follows (record { stamp = s; parent = p; symbol = y }) r.held)
  able (Delete s t) free r le = go at (let u = r.target in cc)
    where
      go : (n : ℕ) → t ≡ place_at es n → 1 ≤ n
      go zero e = absurd (delete-target h lawful s t (d.follows.clear (Delete s t) r.held).0 e)
      go (suc n) e = omega arith
  able (Set s k v) free r le = tt

  -- nothing waits for the place
  free-place : ((q : Op) → has_op old q ≡ true → waits_for (place_at es at) q ≡ false) → IsFree (has_op old) es at
  free-place none q w e = true≢false (sym (is-target (place_at es at) q e) ∙ none q w)
    where
      is-target : (s : Stamp) (o : Op) → target_of o ≡ Some s → waits_for s o ≡ true
      is-target s (Insert a p y) e = let i : p ≡ s = cc in same-from p s i
      is-target s (Delete a t) e = let i : t ≡ s = cc in same-from t s i
      is-target s (Set a k v) e = cc

  pub goes_on : ((q : Op) → has_op old q ≡ true → waits_for (place_at es at) q ≡ false) → IsDraining h (has_op old) es (at + 1) last
  goes_on none = record { follows = d.follows; rest = λ j lt o. go j lt (which j o) }
    where
      which : (j : ℕ) → (j < at + 1) ⊎ (last < j) → ((j < at) ⊎ (last < j)) ⊎ (j ≡ at)
      which j (inr l) = inl (inr l)
      which j (inl l) = turn (cases_eq j at)
        where
          turn : (j ≡ at) ⊎ (j ≡ at → ⊥) → ((j < at) ⊎ (last < j)) ⊎ (j ≡ at)
          turn (inl e) = inr e
          turn (inr n) = inl (inl (omega arith))

      go : (j : ℕ) → j < length (places es) → ((j < at) ⊎ (last < j)) ⊎ (j ≡ at) → IsFree (has_op old) es j
      go j lt (inl o) = d.rest j lt o
      go j lt (inr e) = subst (IsFree (has_op old) es) (sym e) (free-place none)

  pub ends : last ≤ at → ((q : Op) → has_op old q ≡ true → waits_for (place_at es at) q ≡ false) → IsSettled h es old
  ends le none = record { entries = settled-entries h lawful (has_op old) es d.follows nothing; waits = settled-waits h lawful (has_op old) es d.follows nothing }
    where
      go : (j : ℕ) → j < length (places es) → (j < at) ⊎ ((at < j) ⊎ (j ≡ at)) → IsFree (has_op old) es j
      go j lt (inl l) = d.rest j lt (inl l)
      go j lt (inr (inl l)) = d.rest j lt (inr (omega arith))
      go j lt (inr (inr e)) = subst (IsFree (has_op old) es) (sym e) (free-place none)

      which : (j : ℕ) → (j < at) ⊎ ((at < j) ⊎ (j ≡ at))
      which j = turn (cases_order j at)
        where
          turn : (j ≡ at) ⊎ ((j < at) ⊎ (at < j)) → (j < at) ⊎ ((at < j) ⊎ (j ≡ at))
          turn (inl e) = inr (inr e)
          turn (inr (inl l)) = inl l
          turn (inr (inr l)) = inr (inl l)

      nothing : (j : ℕ) → j < length (places es) → IsFree (has_op old) es j
      nothing j lt = go j lt (which j)
