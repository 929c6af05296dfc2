-- Where the ways of a set's clear inserts end, and what is live by that.
use Rattle.std.proofs.Common.{◌≡◌, ◌<◌, ◌⊎◌, inl, inr, true, false, reverse, refl, sym, ap, ◌∙◌, Some}
use Rattle.std.specs.Option.{unwrap_or}
use Rattle.std.specs.FinMap as fin
use Rattle.desk_ops.specs.declared.op.Stamp.{Stamp}
use Rattle.desk_ops.specs.declared.op.Op.{Op}
use Rattle.desk_ops.specs.declared.op.Op.TheVariants.{Insert, Delete, Set}
use Rattle.desk_ops.specs.Stamp.{same, head}
use Rattle.desk_ops.specs.Op.{stamp_of, Insertion, insertion, IsLawful}
use Rattle.desk_ops.specs.OpSet.{OpSet, has_op, in_order, AllLawful}
use Rattle.desk_ops.specs.Lists.{Among}
use Rattle.desk_ops.specs.Held.{is_clear, clear_ops, clear_ops_of, clear_inserts, clear_inserts_of, live_inserts, live_inserts_of, is_live, end_of}
use Rattle.desk_ops.specs.Live.{insert_of, IsClearOp, IsOfLiveInsert, IsLiveOp}
use Rattle.desk_ops.proofs.Stamps.{same-true, same-from, by_cases}
use Rattle.desk_ops.proofs.Lists.{each-among, among-filter, among-filter_from}
use Rattle.desk_ops.proofs.Paths.{way-absent, Each-reverse}
use Rattle.desk_ops.proofs.Kept.{Descends, descends, step, started, among-reverse, among-reversed}
use Rattle.desk_ops.proofs.Means.{among-any, any-among, clear_ascending, clear_grows, clear_insert, IsClearInsert, insert_parent, live-parts}
use Rattle.desk_ops.proofs.Arrive.{insert_clear}

pub among_held : (h : OpSet) (o : Op) → has_op h o ≡ true → Among o (in_order h)
among_held h o e = any-among o (in_order h) (sym (fin.contains_key-keys h o) ∙ e)

pub held_among : (h : OpSet) (o : Op) → Among o (in_order h) → has_op h o ≡ true
held_among h o m = fin.contains_key-keys h o ∙ among-any o (in_order h) m

-- ---- the clear operations

pub clear_from_op : (h : OpSet) (o : Op) → IsClearOp h o → Among o (clear_ops_of h)
unfolding clear_ops
clear_from_op h o c = among-filter_from (λ p. is_clear (in_order h) (stamp_of p)) (in_order h) o (among_held h o c.0) c.1

pub op_from_clear : (h : OpSet) (o : Op) → Among o (clear_ops_of h) → IsClearOp h o
unfolding clear_ops
op_from_clear h o m = let q = among-filter (λ p. is_clear (in_order h) (stamp_of p)) (in_order h) o m in (held_among h o q.0, q.1)

op-insertion : (o : Op) (x : Insertion) → insertion o ≡ Some x → o ≡ insert_of x
op-insertion (Insert s p y) x e = ap (λ r. insert_of (unwrap_or r x)) e
op-insertion (Delete s t) x e = cc
op-insertion (Set s k v) x e = cc

pub insert_from_op : (h : OpSet) (x : Insertion) → IsClearOp h (insert_of x) → Among x (clear_inserts_of h)
insert_from_op h x c = insert_clear (in_order h) x (record { op = insert_of x; held = among_held h (insert_of x) c.0; clear = c.1; is = refl })

pub op_from_insert : (h : OpSet) (x : Insertion) → Among x (clear_inserts_of h) → IsClearOp h (insert_of x)
op_from_insert h x m = go (clear_insert (in_order h) x m)
  where
    go : IsClearInsert (in_order h) x → IsClearOp h (insert_of x)
    go c = let e = op-insertion c.op x c.is in (ap (has_op h) (sym e) ∙ held_among h c.op c.held, ap (λ o. is_clear (in_order h) (stamp_of o)) (sym e) ∙ c.clear)

-- ---- ways

module _ (h : OpSet) (lawful : AllLawful h) where
  pub falls : Descends (reverse (clear_inserts (in_order h)))
  falls = descends (clear_inserts (in_order h)) (clear_ascending h) (clear_grows (in_order h) lawful).0

  pub older : (x : Insertion) → Among x (clear_inserts (in_order h)) → x.parent.counter < x.stamp.counter
  older x m = go (clear_insert (in_order h) x m)
    where
      go : IsClearInsert (in_order h) x → x.parent.counter < x.stamp.counter
      go c = insert_parent (λ p s. p.counter < s.counter) c.op x c.is (each-among IsLawful (in_order h) c.op lawful c.held) (λ s p _ k. k)

  -- one step of the way
  pub on : (x : Insertion) → Among x (clear_inserts (in_order h)) → end_of (in_order h) x.stamp ≡ end_of (in_order h) x.parent
  on x m = (step (reverse (clear_inserts (in_order h))) falls x (among-reversed (clear_inserts (in_order h)) x m)).1

  pub at_head : end_of (in_order h) head ≡ head
  at_head = way-absent (reverse (clear_inserts (in_order h))) head (Each-reverse (λ x. same x.stamp head ≡ false) (clear_inserts (in_order h)) (clear_grows (in_order h) lawful).1)

  live-insert : (x : Insertion) → Among x (clear_inserts (in_order h)) → end_of (in_order h) x.parent ≡ head → Among x (live_inserts (in_order h))
  unfolding live_inserts
  live-insert x m e = among-filter_from (λ x. is_live (in_order h) x.parent) (clear_inserts (in_order h)) x m (same-from (end_of (in_order h) x.parent) head e)

  -- a way that ends at the head starts there, or at a live insert
  pub live_from_end : (s : Stamp) → end_of (in_order h) s ≡ head → (s ≡ head) ⊎ IsOfLiveInsert h s
  live_from_end s e = by_cases (same s head) (λ k. inl (same-true s head k)) (λ k. inr (go (started (reverse (clear_inserts (in_order h))) s head e k)))
    where
      go : ((x : Insertion) × Among x (reverse (clear_inserts (in_order h))) × (same x.stamp s ≡ true)) → IsOfLiveInsert h s
      go r =
          let m : Among r.0 (clear_inserts (in_order h)) = among-reverse (clear_inserts (in_order h)) r.0 r.1 in
          let i : r.0.stamp ≡ s = same-true r.0.stamp s r.2 in
          (r.0, live-insert r.0 m (sym (on r.0 m) ∙ ap (end_of (in_order h)) i ∙ e), i)

  pub end_from_live : (s : Stamp) → (s ≡ head) ⊎ IsOfLiveInsert h s → end_of (in_order h) s ≡ head
  end_from_live s (inl e) = ap (end_of (in_order h)) e ∙ at_head
  end_from_live s (inr y) =
      let p = live-parts (in_order h) y.0 y.1 in
      ap (end_of (in_order h)) (sym y.2) ∙ on y.0 p.0 ∙ same-true (end_of (in_order h) y.0.parent) head p.1

  pub live_from_op : (x : Insertion) → IsLiveOp h (insert_of x) → Among x (live_inserts_of h)
  live_from_op x l = live-insert x (insert_from_op h x l.0) (end_from_live x.parent l.1)

  pub op_from_live : (x : Insertion) → Among x (live_inserts_of h) → IsLiveOp h (insert_of x)
  op_from_live x m =
      let p = live-parts (in_order h) x m in
      (op_from_insert h x p.0, live_from_end x.parent (same-true (end_of (in_order h) x.parent) head p.1))
