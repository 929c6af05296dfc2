-- The inserts of a drained list are the live ones.
use Rattle.std.proofs.Common.{◌≡◌, ℕ, zero, suc, ◌<◌, true, false, List, reverse, sym, ap, ◌∙◌, subst, ◌⊎◌, inl, inr, arith}
use Rattle.desk_ops.specs.declared.op.Stamp.{Stamp}
use Rattle.desk_ops.specs.Op.{Insertion, IsLawful}
use Rattle.desk_ops.specs.OpSet.{OpSet, in_order}
use Rattle.desk_ops.specs.Stamp.{head, same, before}
use Rattle.std.proofs.lemmas.Bool.{true≢false}
use Rattle.desk_ops.specs.Walk.{walk_from}
use Rattle.desk_ops.specs.Scan.{with_insert, scan_insert}
use Rattle.desk_ops.specs.Held.{clear_inserts, live_inserts, is_live, way_end}
use Rattle.desk_ops.specs.Lists.{Among}
use Rattle.desk_ops.specs.Drain.{IsThere, IsTakenIn, IsDrained}
use Rattle.desk_ops.proofs.Lists.{Each, each-among, each-from_among, among-filter_from}
use Rattle.desk_ops.proofs.Stamps.{same-true, same-from, by_cases}
use Rattle.desk_ops.proofs.Kept.{started, among-reverse}
use Rattle.desk_ops.proofs.Means.{clear_grows, live_ascending, live-parts}
use Rattle.desk_ops.proofs.Ends.{older, on, at_head}
use Rattle.desk_ops.proofs.Arrive.{ascending-same, among-with_insert, with_insert-among, with_insert-ascending}
use Rattle.desk_ops.proofs.Scans.{place-walk}

module _ (h : OpSet) (lawful : Each IsLawful (in_order h)) (xs : List Insertion) (d : IsDrained h xs) where
  there-live : (n : ℕ) (s : Stamp) → s.counter < n → IsThere xs s → way_end (reverse (clear_inserts (in_order h))) s ≡ head
  there-live zero s lt t = absurd (omega arith)
  there-live (suc n) s lt (inl e) = ap (way_end (reverse (clear_inserts (in_order h)))) e ∙ at_head h lawful
  there-live (suc n) s lt (inr y) =
      let m : Among y.0 (clear_inserts (in_order h)) = d.taken.of_set y.0 y.1 in
      let o : y.0.parent.counter < y.0.stamp.counter = older h lawful y.0 m in
      let e : y.0.stamp.counter ≡ s.counter = ap (λ (t : Stamp). t.counter) y.2 in
      ap (way_end (reverse (clear_inserts (in_order h)))) (sym y.2) ∙ on h lawful y.0 m ∙ there-live n y.0.parent (omega arith) (d.taken.closed y.0 y.1)

  live-there : (n : ℕ) (s : Stamp) → s.counter < n → way_end (reverse (clear_inserts (in_order h))) s ≡ head → IsThere xs s
  live-there zero s lt w = absurd (omega arith)
  live-there (suc n) s lt w =
      by_cases (same s head)
      (λ k. inl (same-true s head k))
      (λ k. go (started (reverse (clear_inserts (in_order h))) s head w k) (λ p l v. live-there n p l v))
    where
      go : ((e : Insertion) × Among e (reverse (clear_inserts (in_order h))) × (same e.stamp s ≡ true)) → ((p : Stamp) → p.counter < n → way_end (reverse (clear_inserts (in_order h))) p ≡ head → IsThere xs p) → IsThere xs s
      go r rest =
          let m : Among r.0 (clear_inserts (in_order h)) = among-reverse (clear_inserts (in_order h)) r.0 r.1 in
          let o : r.0.parent.counter < r.0.stamp.counter = older h lawful r.0 m in
          let e : r.0.stamp ≡ s = same-true r.0.stamp s r.2 in
          let f : r.0.stamp.counter ≡ s.counter = ap (λ (t : Stamp). t.counter) e in
          inr (r.0, d.no_more r.0 m (rest r.0.parent (omega arith) (sym (on h lawful r.0 m) ∙ ap (way_end (reverse (clear_inserts (in_order h)))) e ∙ w)), e)

  -- a drained list is that of the live inserts
  pub drained : xs ≡ live_inserts (in_order h)
  unfolding live_inserts
  drained = ascending-same xs (live_inserts (in_order h)) d.taken.ascending (live_ascending h)
      (λ z m. among-filter_from (λ x. is_live (in_order h) x.parent) (clear_inserts (in_order h)) z (d.taken.of_set z m) (same-from (way_end (reverse (clear_inserts (in_order h))) z.parent) head (there-live (suc z.parent.counter) z.parent (omega arith) (d.taken.closed z m))))
      (λ z m. let p = live-parts (in_order h) z m in d.no_more z p.0 (live-there (suc z.parent.counter) z.parent (omega arith) (same-true (way_end (reverse (clear_inserts (in_order h))) z.parent) head p.1)))

-- one step of a drain: a clear insert whose parent is there, and that is not
module _ (h : OpSet) (lawful : Each IsLawful (in_order h)) (xs : List Insertion) (t : IsTakenIn h xs) (e : Insertion) (clear : Among e (clear_inserts (in_order h))) (new : Each (λ x. same x.stamp e.stamp ≡ false) xs) where
  parent_older : before e.parent e.stamp ≡ true
  parent_older = each-among (λ x. before x.parent x.stamp ≡ true) (clear_inserts (in_order h)) e (clear_grows (in_order h) lawful).0 clear

  not_head : same e.stamp head ≡ false
  not_head = each-among (λ x. same x.stamp head ≡ false) (clear_inserts (in_order h)) e (clear_grows (in_order h) lawful).1 clear

  childless : Each (λ x. same x.parent e.stamp ≡ false) xs
  childless = each-from_among (λ x. same x.parent e.stamp ≡ false) xs (λ x m. by_cases (same x.parent e.stamp) (λ k. absurd (none (subst (IsThere xs) (same-true x.parent e.stamp k) (t.closed x m)))) (λ k. k))
    where
      none : IsThere xs e.stamp → ⊥
      none (inl i) = true≢false (sym (same-from e.stamp head i) ∙ not_head)
      none (inr y) = true≢false (sym (same-from y.0.stamp e.stamp y.2) ∙ each-among (λ x. same x.stamp e.stamp ≡ false) xs y.0 new y.1)

  pub taken_in : IsThere xs e.parent → IsTakenIn h (with_insert e xs)
  taken_in there = record {
    ascending = with_insert-ascending e xs t.ascending new;
    of_set = λ x m. among x (among-with_insert e xs x m);
    closed = λ x m. more x.parent (under x (among-with_insert e xs x m));
  }
    where
      among : (x : Insertion) → (e ≡ x) ⊎ Among x xs → Among x (clear_inserts (in_order h))
      among x (inl i) = subst (λ y. Among y (clear_inserts (in_order h))) i clear
      among x (inr m) = t.of_set x m

      under : (x : Insertion) → (e ≡ x) ⊎ Among x xs → IsThere xs x.parent
      under x (inl i) = subst (λ (y : Insertion). IsThere xs y.parent) i there
      under x (inr m) = t.closed x m

      more : (s : Stamp) → IsThere xs s → IsThere (with_insert e xs) s
      more s (inl i) = inl i
      more s (inr y) = inr (y.0, with_insert-among e xs y.0 (inr y.1), y.2)

  pub walk_taken : walk_from (with_insert e xs) head ≡ scan_insert e (walk_from xs head)
  walk_taken = place-walk e xs t.ascending (record { parent_older = parent_older; fresh = new; childless = childless }) head
      (each-from_among (λ x. same x.stamp head ≡ false) xs (λ x m. each-among (λ x. same x.stamp head ≡ false) (clear_inserts (in_order h)) x (clear_grows (in_order h) lawful).1 (t.of_set x m)))
