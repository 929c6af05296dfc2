-- A set with one operation more, whose stamp none bears.
use Rattle.std.proofs.Common.{◌≡◌, Bool, true, false, List, map, refl, sym, ap, ◌∙◌, subst, ◌⊎◌, inl, inr, Some}
use Rattle.std.proofs.lemmas.Bool.{true≢false}
use Rattle.desk_ops.specs.declared.op.Stamp.{Stamp}
use Rattle.desk_ops.specs.declared.op.Op.{Op}
use Rattle.desk_ops.specs.declared.op.Op.TheVariants.{Insert, Delete, Set}
use Rattle.desk_ops.specs.Stamp.{head}
use Rattle.desk_ops.specs.Op.{stamp_of, target_of, Insertion, IsLawful}
use Rattle.desk_ops.specs.OpSet.{OpSet, has_op, with_op, in_order, AllLawful}
use Rattle.desk_ops.specs.Lists.{Among}
use Rattle.desk_ops.specs.Held.{is_borne_in, is_live, end_of, live_inserts_of}
use Rattle.desk_ops.specs.Live.{insert_of, IsClearOp, IsLiveOp, IsOfLiveInsert}
use Rattle.desk_ops.specs.Walk.{walk, walk_of}
use Rattle.desk_ops.specs.Shown.{is_deleted_in}
use Rattle.desk_ops.proofs.Stamps.{by_cases, same-true, same-from}
use Rattle.desk_ops.proofs.Lists.{each-among}
use Rattle.desk_ops.proofs.Means.{not-head, live_ascending, live-parts}
use Rattle.desk_ops.proofs.Tree.{live-walk, walk-live}
use Rattle.desk_ops.proofs.Ends.{among_held, insert_from_op, op_from_insert, live_from_end, end_from_live, live_from_op, op_from_live}
use Rattle.desk_ops.proofs.Joined.{has_op-with_op_own, within-with_op, with-cases}
use Rattle.desk_ops.proofs.Fresh.{clear_old, clear_new, own_clear}
use Rattle.desk_ops.proofs.Bearers.{op_borne}
use Rattle.desk_ops.proofs.Deletes.{delete_live, deleted_from, deleted_by}
use Rattle.desk_walk.specs.Waiting.{HasTarget}
use Rattle.desk_seq.specs.declared.Entry.{Entry}
use Rattle.desk_seq.specs.Entries.{stamps_of}
use Rattle.desk_walk.specs.Following.{entry_of, entries_of, bare, IsWaiting, IsSettled, IsFollowing}
use Rattle.desk_walk.proofs.Lists.{among-map, map-among, bare-entries}

-- ---- what waits

pub waiting-target : (h : OpSet) (o : Op) → IsWaiting h o → HasTarget o
waiting-target h (Insert s p y) w = refl
waiting-target h (Delete s t) w = refl
waiting-target h (Set s k v) w = absurd (w.not_live (w.clear, tt))

module _ (h : OpSet) (lawful : AllLawful h) where
  pub delete-target : (s t : Stamp) → has_op h (Delete s t) ≡ true → t ≡ head → ⊥
  delete-target s t held e = true≢false (sym (same-from t head e) ∙ not-head t (each-among IsLawful (in_order h) (Delete s t) lawful (among_held h (Delete s t) held)).1)

  pub live_or_waiting : (o : Op) → IsClearOp h o → IsLiveOp h o ⊎ IsWaiting h o
  live_or_waiting (Insert s p y) c =
      by_cases (is_live (in_order h) p)
      (λ k. inl (c, live_from_end h lawful p (same-true (end_of (in_order h) p) head k)))
      (λ k. inr (record { clear = c; not_live = λ l. true≢false (sym (same-from (end_of (in_order h) p) head (end_from_live h lawful p l.1)) ∙ k) }))
  live_or_waiting (Delete s t) c =
      by_cases (is_live (in_order h) t)
      (λ k. inl (c, of_insert (live_from_end h lawful t (same-true (end_of (in_order h) t) head k))))
      (λ k. inr (record { clear = c; not_live = λ l. true≢false (sym (same-from (end_of (in_order h) t) head (end_from_live h lawful t (inr l.1))) ∙ k) }))
    where
      of_insert : (t ≡ head) ⊎ IsOfLiveInsert h t → IsOfLiveInsert h t
      of_insert (inl e) = absurd (delete-target s t c.0 e)
      of_insert (inr l) = l
  live_or_waiting (Set s k v) c = inl (c, tt)

  -- what hangs on the head or on a live insert is live
  pub live-by_target : (o : Op) → IsClearOp h o → (t : Stamp) → target_of o ≡ Some t → (t ≡ head) ⊎ IsOfLiveInsert h t → IsLiveOp h o
  live-by_target (Insert s p y) c t e l = let i : t ≡ p = cc in (c, subst (λ u. (u ≡ head) ⊎ IsOfLiveInsert h u) i l)
  live-by_target (Delete s u) c t e (inl k) = let i : u ≡ t = cc in absurd (delete-target s u c.0 (i ∙ k))
  live-by_target (Delete s u) c t e (inr l) = let i : t ≡ u = cc in (c, subst (IsOfLiveInsert h) i l)
  live-by_target (Set s k v) c t e l = cc

-- the tests of what waits, with one operation more if it has a target
pub record IsAdded (w waits : Op → Bool) (o : Op) : Type 0 where
  pub to : (q : Op) → waits q ≡ true → (o ≡ q) ⊎ (w q ≡ true)
  pub from : (q : Op) → w q ≡ true → waits q ≡ true
  pub own : HasTarget o → waits o ≡ true
  pub target : waits o ≡ true → HasTarget o

-- put into what waits
pub added-put : (w : OpSet) (o : Op) → HasTarget o → IsAdded (has_op w) (has_op (with_op w o)) o
added-put w o t = record { to = λ q. with-cases w o q; from = λ q. within-with_op w o q; own = λ u. has_op-with_op_own w o; target = λ e. t }

-- a set has no target, and does not wait
pub added-none : (h w : OpSet) (es : List Entry) (o : Op) → IsSettled h es w → (HasTarget o → ⊥) → IsAdded (has_op w) (has_op w) o
added-none h w es o s none = record { to = λ q e. inr e; from = λ q e. e; own = λ t. absurd (none t); target = λ e. waiting-target h o ((s.waits o).0 e) }

module _ (h : OpSet) (lawful : AllLawful h) (o : Op) (new : is_borne_in h (stamp_of o) ≡ false) where
  pub not-held : has_op h o ≡ true → ⊥
  not-held e = true≢false (sym (op_borne h (stamp_of o) (o, e, refl)) ∙ new)

module _ (h : OpSet) (lawful : AllLawful h) (es : List Entry) (entries : es ≡ entries_of h) where
  walked : (t : Stamp) → IsOfLiveInsert h t → Among t (stamps_of es)
  walked t l = subst (λ (fs : List Entry). Among t (stamps_of fs)) (sym entries)
      (subst (λ u. Among u (stamps_of (entries_of h))) l.2 (map-among (λ (e : Entry). e.stamp) (entries_of h) (entry_of h l.0) (map-among (entry_of h) (walk_of h) l.0 (live-walk h lawful l.0 l.1))))

  pub live-stamp : (t : Stamp) → Among t (stamps_of es) → IsOfLiveInsert h t
  live-stamp t m = go (among-map (λ (e : Entry). e.stamp) (entries_of h) t (subst (λ (fs : List Entry). Among t (stamps_of fs)) entries m))
    where
      go : ((e : Entry) × Among e (entries_of h) × (e.stamp ≡ t)) → IsOfLiveInsert h t
      go r = more (among-map (entry_of h) (walk_of h) r.0 r.1)
        where
          more : ((x : Insertion) × Among x (walk_of h) × (entry_of h x ≡ r.0)) → IsOfLiveInsert h t
          more s = (s.0, walk-live (in_order h) s.0 s.1, ap (λ (e : Entry). e.stamp) s.2 ∙ r.2)

  -- what waits has no target among the places
  pub old-free : (w : OpSet) → IsSettled h es w → (q : Op) (t : Stamp) → has_op w q ≡ true → target_of q ≡ Some t → (t ≡ head) ⊎ Among t (stamps_of es) → ⊥
  old-free w s q t e i m = let k = (s.waits q).0 e in k.not_live (live-by_target h lawful q k.clear t i (there m))
    where
      there : (t ≡ head) ⊎ Among t (stamps_of es) → (t ≡ head) ⊎ IsOfLiveInsert h t
      there (inl j) = inl j
      there (inr n) = inr (live-stamp t n)

module _ (h : OpSet) (lawful : AllLawful h) (o : Op) (new : is_borne_in h (stamp_of o) ≡ false) where
  module _ (es : List Entry) (w waits : Op → Bool) (entries : es ≡ entries_of h) (before_it : (q : Op) → (w q ≡ true → IsWaiting h q) × (IsWaiting h q → w q ≡ true)) (a : IsAdded w waits o) where
    -- one that waits with it, and that the set held before, is not live there
    old-waits : (q : Op) → IsClearOp h q → waits q ≡ true → IsWaiting h q
    old-waits q c e = go (a.to q e)
      where
        go : (o ≡ q) ⊎ (w q ≡ true) → IsWaiting h q
        go (inl i) = absurd (not-held h lawful o new (subst (λ r. has_op h r ≡ true) (sym i) c.0))
        go (inr k) = (before_it q).0 k

    marks : (e : Entry) → Among e es → ((e.deleted ≡ true → (s : Stamp) × IsClearOp (with_op h o) (Delete s e.stamp) × (waits (Delete s e.stamp) ≡ false))
        × ((s : Stamp) × IsClearOp (with_op h o) (Delete s e.stamp) × (waits (Delete s e.stamp) ≡ false) → e.deleted ≡ true))
    marks e m = go (among-map (entry_of h) (walk_of h) e (subst (Among e) entries m))
      where
        go : ((x : Insertion) × Among x (walk_of h) × (entry_of h x ≡ e)) → ((e.deleted ≡ true → (s : Stamp) × IsClearOp (with_op h o) (Delete s e.stamp) × (waits (Delete s e.stamp) ≡ false))
            × ((s : Stamp) × IsClearOp (with_op h o) (Delete s e.stamp) × (waits (Delete s e.stamp) ≡ false) → e.deleted ≡ true))
        go r = (to, from)
          where
            stamp : r.0.stamp ≡ e.stamp
            stamp = ap (λ (f : Entry). f.stamp) r.2

            mark : is_deleted_in h r.0.stamp ≡ e.deleted
            mark = ap (λ (f : Entry). f.deleted) r.2

            to : e.deleted ≡ true → (s : Stamp) × IsClearOp (with_op h o) (Delete s e.stamp) × (waits (Delete s e.stamp) ≡ false)
            to k = more (deleted_from h r.0.stamp (mark ∙ k))
              where
                more : ((t : Stamp) × IsClearOp h (Delete t r.0.stamp)) → (s : Stamp) × IsClearOp (with_op h o) (Delete s e.stamp) × (waits (Delete s e.stamp) ≡ false)
                more d = subst (λ (u : Stamp). (s : Stamp) × IsClearOp (with_op h o) (Delete s u) × (waits (Delete s u) ≡ false)) stamp
                    (d.0, clear_old h o new (Delete d.0 r.0.stamp) d.1, by_cases (waits (Delete d.0 r.0.stamp)) (λ b. absurd ((old-waits (Delete d.0 r.0.stamp) d.1 b).not_live (delete_live h r.0 r.1 d.0 d.1))) (λ b. b))

            from : (s : Stamp) × IsClearOp (with_op h o) (Delete s e.stamp) × (waits (Delete s e.stamp) ≡ false) → e.deleted ≡ true
            from d = sym mark ∙ deleted_by h r.0.stamp (subst (λ (u : Stamp). (s : Stamp) × IsClearOp h (Delete s u)) (sym stamp) (d.0, old (clear_new h o new (Delete d.0 e.stamp) d.1)))
              where
                old : (o ≡ Delete d.0 e.stamp) ⊎ IsClearOp h (Delete d.0 e.stamp) → IsClearOp h (Delete d.0 e.stamp)
                old (inl i) = absurd (true≢false (sym (ap waits (sym i) ∙ a.own (subst HasTarget (sym i) refl)) ∙ d.2))
                old (inr c) = c

    -- the entries follow the set with it
    pub following : IsFollowing (with_op h o) waits es
    unfolding walk
    following = record {
      inserts = live_inserts_of h;
      taken = record {
        ascending = live_ascending h;
        of_set = λ x m. insert_from_op (with_op h o) x (clear_old h o new (insert_of x) (op_from_insert h x (live-parts (in_order h) x m).0));
        closed = λ x m. (op_from_live h lawful x m).1;
      };
      walk = ap (map bare) entries ∙ bare-entries h (walk_of h);
      whole = λ x m. walked h lawful es entries x.stamp (x, m, refl);
      marks = λ e m. marks e m;
      clear = λ q e. clear q (a.to q e);
      targets = λ q e. target q (a.to q e) e;
      untaken = λ x c. untaken x (clear_new h o new (insert_of x) c);
      apart = λ x m. by_cases (waits (insert_of x)) (λ e. absurd ((old-waits (insert_of x) (op_from_insert h x (live-parts (in_order h) x m).0) e).not_live (op_from_live h lawful x m))) (λ e. e);
      deletes = λ s t c. deletes s t (clear_new h o new (Delete s t) c);
    }
      where
        clear : (q : Op) → (o ≡ q) ⊎ (w q ≡ true) → IsClearOp (with_op h o) q
        clear q (inl i) = subst (IsClearOp (with_op h o)) i (own_clear h o new)
        clear q (inr e) = clear_old h o new q ((before_it q).0 e).clear

        target : (q : Op) → (o ≡ q) ⊎ (w q ≡ true) → waits q ≡ true → HasTarget q
        target q (inl i) e = subst HasTarget i (a.target (ap waits i ∙ e))
        target q (inr k) e = waiting-target h q ((before_it q).0 k)

        untaken : (x : Insertion) → (o ≡ insert_of x) ⊎ IsClearOp h (insert_of x) → Among x (live_inserts_of h) ⊎ (waits (insert_of x) ≡ true)
        untaken x (inl i) = inr (ap waits (sym i) ∙ a.own (subst HasTarget (sym i) refl))
        untaken x (inr c) = which (live_or_waiting h lawful (insert_of x) c)
          where
            which : IsLiveOp h (insert_of x) ⊎ IsWaiting h (insert_of x) → Among x (live_inserts_of h) ⊎ (waits (insert_of x) ≡ true)
            which (inl l) = inl (live_from_op h lawful x l)
            which (inr k) = inr (a.from (insert_of x) ((before_it (insert_of x)).1 k))

        deletes : (s t : Stamp) → (o ≡ Delete s t) ⊎ IsClearOp h (Delete s t) → (waits (Delete s t) ≡ true) ⊎ Among t (stamps_of es)
        deletes s t (inl i) = inl (ap waits (sym i) ∙ a.own (subst HasTarget (sym i) refl))
        deletes s t (inr c) = which (live_or_waiting h lawful (Delete s t) c)
          where
            which : IsLiveOp h (Delete s t) ⊎ IsWaiting h (Delete s t) → (waits (Delete s t) ≡ true) ⊎ Among t (stamps_of es)
            which (inl l) = inr (walked h lawful es entries t l.1)
            which (inr k) = inl (a.from (Delete s t) ((before_it (Delete s t)).1 k))
