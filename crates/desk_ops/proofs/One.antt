-- Where no stamp is forked, the larger set's path order holds what the smaller shows.
use Rattle.std.proofs.Common.{◌≡◌, ℕ, zero, suc, ◌<◌, Bool, true, false, not, cond, List, [], ◌∷◌, ◌++◌, reverse, refl, sym, ap, ◌∙◌, subst, inl, inr, arith}
use Rattle.std.specs.List.{filter}
use Rattle.std.proofs.lemmas.Bool.{true≢false}
use Rattle.std.specs.declared.cmp.Ordering.TheVariants.{Less, Equal}
use Rattle.desk_ops.specs.declared.op.Stamp.{Stamp}
use Rattle.desk_ops.specs.declared.op.Op.{Op}
use Rattle.desk_ops.specs.Op.{Insertion, stamp_of}
use Rattle.desk_ops.specs.OpSet.{OpSet, in_order, IsWithin, AllLawful}
use Rattle.desk_ops.specs.Stamp.{head, same, before}
use Rattle.desk_ops.specs.Walk.{walk}
use Rattle.desk_ops.specs.Scan.{IsAscending}
use Rattle.desk_ops.specs.Held.{bearing, is_one, is_more, is_clear, is_forked, clear_inserts, live_inserts, is_live, way_end, IsUnforked}
use Rattle.desk_ops.specs.Shown.{is_deleted, shown}
use Rattle.desk_ops.specs.Lists.{Among}
use Rattle.desk_ops.specs.PathOrder.{path, path_cmp, InPathOrder}
use Rattle.desk_ops.specs.Laws.{IsOneOrder}
use Rattle.desk_ops.proofs.Lists.{each-among, each-from_among, each-filter, among-filter_from}
use Rattle.desk_ops.proofs.Stamps.{same-true, same-refl, same-from, by_cases, before-irrefl}
use Rattle.desk_ops.proofs.Paths.{order-alike, path_total, path_antisymmetric, walk-in_order}
use Rattle.desk_ops.proofs.Kept.{descends, step, started, same-path, among-reverse, among-reversed}
use Rattle.desk_ops.proofs.Means.{clear_insert, IsClearInsert, live_ascending, live_grows, live_agree, live-parts, within}
use Rattle.desk_ops.proofs.Tree.{live-walk, walk-live}
use Rattle.desk_ops.proofs.Arrive.{insert_clear}
use Rattle.desk_ops.proofs.Ends.{older, on, at_head}

pub one-of-more : (os : List Op) (o : Op) → Among o os → is_more os ≡ false → is_one os ≡ true
one-of-more [] o m h = absurd m
one-of-more (a ∷ []) o m h = refl
one-of-more (a ∷ b ∷ os) o m h = absurd (true≢false h)

pub unforked-clear : (g : OpSet) → IsUnforked g → (o : Op) → Among o (in_order g) → is_clear (in_order g) (stamp_of o) ≡ true
unfolding is_clear is_forked
unforked-clear g u o m = one-of-more (bearing (in_order g) (stamp_of o)) o (among-filter_from (λ p. same (stamp_of p) (stamp_of o)) (in_order g) o m (same-refl (stamp_of o)))
    (each-among (λ o. is_more (bearing (in_order g) (stamp_of o)) ≡ false) (in_order g) o u m)

pub order-filter : (p : Stamp → List Stamp) (f : Insertion → Bool) (xs : List Insertion) → InPathOrder p xs → InPathOrder p (filter f xs)
order-filter p f [] h = tt
order-filter p f (x ∷ xs) h = elim (f x) as (λ b. InPathOrder p (cond b (x ∷ filter f xs) (filter f xs))) [
  | true ↦ (each-filter (λ y. path_cmp (p x.stamp) (p y.stamp) ≡ Less) f xs h.0, order-filter p f xs h.1)
  | false ↦ order-filter p f xs h.1
]

last_or : Stamp → List Stamp → Stamp
last_or d [] = d
last_or d (s ∷ ss) = last_or s ss

last-append : (d : Stamp) (ss : List Stamp) (s : Stamp) → last_or d (ss ++ s ∷ []) ≡ s
unfolding last_or
last-append d [] s = refl
last-append d (t ∷ ss) s = last-append t ss s

-- one stamp, one insert
ascending-one : (xs : List Insertion) → IsAscending xs → (x y : Insertion) → Among x xs → Among y xs → x.stamp ≡ y.stamp → x ≡ y
ascending-one [] up x y m n e = absurd m
ascending-one (z ∷ zs) up x y (inl i) (inl j) e = sym i ∙ j
ascending-one (z ∷ zs) up x y (inl i) (inr n) e = absurd (before-irrefl z.stamp (subst (λ s. before z.stamp s ≡ true) (sym e ∙ ap (λ (w : Insertion). w.stamp) (sym i)) (each-among (λ w. before z.stamp w.stamp ≡ true) zs y up.0 n)))
ascending-one (z ∷ zs) up x y (inr m) (inl j) e = absurd (before-irrefl z.stamp (subst (λ s. before z.stamp s ≡ true) (e ∙ ap (λ (w : Insertion). w.stamp) (sym j)) (each-among (λ w. before z.stamp w.stamp ≡ true) zs x up.0 m)))
ascending-one (z ∷ zs) up x y (inr m) (inr n) e = ascending-one zs up.1 x y m n e

module _ (h g : OpSet) (lh : AllLawful h) (lg : AllLawful g) (u : IsUnforked g) (w : IsWithin h g) where
  clear-within : (x : Insertion) → Among x (clear_inserts (in_order h)) → Among x (clear_inserts (in_order g))
  clear-within x m = go (clear_insert (in_order h) x m)
    where
      go : IsClearInsert (in_order h) x → Among x (clear_inserts (in_order g))
      go c = let n : Among c.op (in_order g) = within h g w c.op c.held in insert_clear (in_order g) x (record { op = c.op; held = n; clear = unforked-clear g u c.op n; is = c.is })

  way-within : (n : ℕ) (s : Stamp) → s.counter < n → way_end (reverse (clear_inserts (in_order h))) s ≡ head → way_end (reverse (clear_inserts (in_order g))) s ≡ head
  way-within zero s lt v = absurd (omega arith)
  way-within (suc n) s lt v =
      by_cases (same s head)
      (λ k. ap (way_end (reverse (clear_inserts (in_order g)))) (same-true s head k) ∙ at_head g lg)
      (λ k. go (started (reverse (clear_inserts (in_order h))) s head v k) (λ p l q. way-within n p l q))
    where
      go : ((e : Insertion) × Among e (reverse (clear_inserts (in_order h))) × (same e.stamp s ≡ true)) → ((p : Stamp) → p.counter < n → way_end (reverse (clear_inserts (in_order h))) p ≡ head → way_end (reverse (clear_inserts (in_order g))) p ≡ head) → way_end (reverse (clear_inserts (in_order g))) s ≡ head
      go r rest =
          let m : Among r.0 (clear_inserts (in_order h)) = among-reverse (clear_inserts (in_order h)) r.0 r.1 in
          let o : r.0.parent.counter < r.0.stamp.counter = older h lh r.0 m in
          let e : r.0.stamp ≡ s = same-true r.0.stamp s r.2 in
          let f : r.0.stamp.counter ≡ s.counter = ap (λ (t : Stamp). t.counter) e in
          ap (way_end (reverse (clear_inserts (in_order g)))) (sym e) ∙ on g lg r.0 (clear-within r.0 m)
          ∙ rest r.0.parent (omega arith) (sym (on h lh r.0 m) ∙ ap (way_end (reverse (clear_inserts (in_order h)))) e ∙ v)

  live-within : (x : Insertion) → Among x (live_inserts (in_order h)) → Among x (live_inserts (in_order g))
  unfolding live_inserts
  live-within x m =
      let p = live-parts (in_order h) x m in
      among-filter_from (λ x. is_live (in_order g) x.parent) (clear_inserts (in_order g)) x (clear-within x p.0)
      (same-from (way_end (reverse (clear_inserts (in_order g))) x.parent) head (way-within (suc x.parent.counter) x.parent (omega arith) (same-true (way_end (reverse (clear_inserts (in_order h))) x.parent) head p.1)))

  in_larger : InPathOrder (path (in_order g)) (walk (in_order h))
  unfolding walk
  in_larger = order-alike (path (in_order h)) (path (in_order g)) (λ l. l) (λ a b. refl) (walk (in_order h))
      (each-from_among (λ y. path (in_order g) y.stamp ≡ path (in_order h) y.stamp) (walk (in_order h))
      (λ y m. sym (same-path (live_inserts (in_order h)) (live_inserts (in_order g)) (live_ascending h) (live_ascending g) (live_grows (in_order h) lh) (live_grows (in_order g) lg) (live_agree h g w) y m (live-walk g lg y (live-within y (walk-live (in_order h) y m))))))
      (walk-in_order (live_inserts (in_order h)) (live_ascending h) head (live_grows (in_order h) lh).1)

  paths-apart : (x y : Insertion) → Among x (live_inserts (in_order g)) → Among y (live_inserts (in_order g)) → path_cmp (path (in_order g) x.stamp) (path (in_order g) y.stamp) ≡ Equal → x ≡ y
  paths-apart x y m n e =
      ascending-one (live_inserts (in_order g)) (live_ascending g) x y m n
      (sym (last-append head (path (in_order g) x.parent) x.stamp) ∙ ap (last_or head) (sym (down x m) ∙ path_antisymmetric (path (in_order g) x.stamp) (path (in_order g) y.stamp) e ∙ down y n) ∙ last-append head (path (in_order g) y.parent) y.stamp)
    where
      down : (z : Insertion) → Among z (live_inserts (in_order g)) → path (in_order g) z.stamp ≡ path (in_order g) z.parent ++ z.stamp ∷ []
      down z m = (step (reverse (live_inserts (in_order g))) (descends (live_inserts (in_order g)) (live_ascending g) (live_grows (in_order g) lg).0) z (among-reversed (live_inserts (in_order g)) z m)).0

  pub one_order : IsOneOrder h g
  unfolding shown
  one_order = record { total = path_total; apart = paths-apart; holds = order-filter (path (in_order g)) (λ x. not (is_deleted (in_order h) x.stamp)) (walk (in_order h)) in_larger }
