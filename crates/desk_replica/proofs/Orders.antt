-- Elements that two sets show keep their order, and one order holds what the parts of a set without forks show.
use Rattle.std.proofs.Common.{◌≡◌, ℕ, zero, suc, ◌<◌, true, false, not, List, [], ◌∷◌, ◌++◌, reverse, refl, sym, ap, ◌∙◌, subst, subst₂, ◌⊎◌, inl, inr, arith}
use Rattle.std.specs.Ordering.{ordering_reverse}
use Rattle.std.specs.declared.cmp.Ordering.{Ordering}
use Rattle.std.specs.declared.cmp.Ordering.TheVariants.{Less, Equal, Greater}
use Rattle.desk_ops.specs.declared.op.Stamp.{Stamp}
use Rattle.desk_ops.specs.declared.op.Op.{Op}
use Rattle.desk_ops.specs.Stamp.{same, head}
use Rattle.desk_ops.specs.Op.{Insertion, stamp_of, IsLawful}
use Rattle.desk_ops.specs.OpSet.{OpSet, has_op, in_order, IsWithin, AllLawful}
use Rattle.desk_ops.specs.Lists.{Among, Precedes}
use Rattle.desk_ops.specs.Held.{bearing, is_more, is_clear, is_forked, is_clear_in, live_inserts, live_inserts_of, IsUnforked}
use Rattle.desk_ops.specs.Live.{insert_of, IsOfLiveInsert, IsLiveOp}
use Rattle.desk_ops.specs.Walk.{walk, walk_of}
use Rattle.desk_ops.specs.PathOrder.{path_of, path_cmp, InPathOrder}
use Rattle.desk_ops.specs.Shown.{is_deleted, shown, shown_of}
use Rattle.desk_ops.proofs.Stamps.{same-refl, same-from}
use Rattle.desk_ops.proofs.Lists.{each-among, among-filter_from, precedes-cases, precedes-first, precedes-second}
use Rattle.desk_ops.proofs.Places.{stamps}
use Rattle.desk_ops.proofs.Paths.{path-absent, path_total, walk-in_order, Each-reverse}
use Rattle.desk_ops.proofs.Kept.{not_less_itself, descends, step, among-reversed}
use Rattle.desk_ops.proofs.Means.{live_ascending, live_grows, live_agree, shown-kept}
use Rattle.desk_ops.proofs.Ends.{among_held, live_from_op, op_from_live}
use Rattle.desk_ops.proofs.One.{one_order, one-of-more, order-filter}
use Rattle.desk_ops.proofs.Parts.{shown_live}
use Rattle.desk_replica.specs.Orders.{shown_stamps, StandAlike, KeepsOrder, StandsBefore, IsOrderOfLive, StandsIn, OneOrderOfSets}

-- ---- elements and their stamps

abbrev IsOf : Stamp → List Insertion → Type 0
IsOf s xs = (x : Insertion) × Among x xs × (x.stamp ≡ s)

among-stamps : (xs : List Insertion) (s : Stamp) → Among s (stamps xs) → IsOf s xs
among-stamps [] s m = absurd m
among-stamps (x ∷ xs) s (inl e) = (x, inl refl, e)
among-stamps (x ∷ xs) s (inr m) = let r = among-stamps xs s m in (r.0, inr r.1, r.2)

stamps-among : (xs : List Insertion) (x : Insertion) → Among x xs → Among x.stamp (stamps xs)
stamps-among [] x m = absurd m
stamps-among (y ∷ xs) x (inl e) = inl (ap (λ (z : Insertion). z.stamp) e)
stamps-among (y ∷ xs) x (inr m) = inr (stamps-among xs x m)

abbrev AreOf : Stamp → Stamp → List Insertion → Type 0
AreOf s t xs = (x : Insertion) × (y : Insertion) × Precedes x y xs × (x.stamp ≡ s) × (y.stamp ≡ t)

precedes-stamps : (xs : List Insertion) (s t : Stamp) → Precedes s t (stamps xs) → AreOf s t xs
precedes-stamps [] s t p = absurd p
precedes-stamps (x ∷ xs) s t (inl p) = let r = among-stamps xs t p.1 in (x, r.0, inl (refl, r.1), p.0, r.2)
precedes-stamps (x ∷ xs) s t (inr p) = let r = precedes-stamps xs s t p in (r.0, r.1, inr r.2, r.3, r.4)

stamps-precede : (xs : List Insertion) (x y : Insertion) → Precedes x y xs → Precedes x.stamp y.stamp (stamps xs)
stamps-precede [] x y p = absurd p
stamps-precede (z ∷ xs) x y (inl p) = inl (ap (λ (w : Insertion). w.stamp) p.0, stamps-among xs y p.1)
stamps-precede (z ∷ xs) x y (inr p) = inr (stamps-precede xs x y p)

-- ---- paths of what stands in order

path-less : (p : Stamp → List Stamp) (xs : List Insertion) → InPathOrder p xs → (s t : Stamp) → Precedes s t (stamps xs) → path_cmp (p s) (p t) ≡ Less
path-less p [] o s t m = absurd m
path-less p (x ∷ xs) o s t (inl m) = go (among-stamps xs t m.1)
  where
    go : IsOf t xs → path_cmp (p s) (p t) ≡ Less
    go r = subst₂ (λ a b. path_cmp (p a) (p b) ≡ Less) m.0 r.2 (each-among (λ y. path_cmp (p x.stamp) (p y.stamp) ≡ Less) xs r.0 o.0 r.1)
path-less p (x ∷ xs) o s t (inr m) = path-less p xs o.1 s t m

-- a walk stands in its set's path order, forks or not, and so does what is shown of it
walked : (h : OpSet) → AllLawful h → InPathOrder (path_of h) (walk_of h)
unfolding walk
walked h l = walk-in_order (live_inserts (in_order h)) (live_ascending h) head (live_grows (in_order h) l).1

own_order : (h : OpSet) → AllLawful h → InPathOrder (path_of h) (shown_of h)
unfolding shown
own_order h l = order-filter (path_of h) (λ x. not (is_deleted (in_order h) x.stamp)) (walk (in_order h)) (walked h l)

at_head : (h : OpSet) → AllLawful h → path_of h head ≡ []
at_head h l = path-absent (reverse (live_inserts (in_order h))) head (Each-reverse (λ x. same x.stamp head ≡ false) (live_inserts (in_order h)) (live_grows (in_order h) l).1)

below : (h : OpSet) → AllLawful h → (x : Insertion) → Among x (live_inserts_of h) → path_of h x.stamp ≡ path_of h x.parent ++ x.stamp ∷ []
below h l x m = (step (reverse (live_inserts (in_order h))) (descends (live_inserts (in_order h)) (live_ascending h) (live_grows (in_order h) l).0) x (among-reversed (live_inserts (in_order h)) x m)).0

not_both_in : (p : Stamp → List Stamp) (xs : List Insertion) → InPathOrder p xs → (s t : Stamp) → path_cmp (p s) (p t) ≡ Less → Precedes t s (stamps xs) → ⊥
not_both_in p xs o s t l b = not_less_itself (p s) (path_total.trans (p s) (p t) (p s) l (path-less p xs o t s b))

-- ---- what both of two sets show

pub kept : (h g : OpSet) → AllLawful h → AllLawful g → IsWithin h g → KeepsOrder h g
kept h g lh lg w s t p ms mt = go (precedes-stamps (shown_of h) s t p) (among-stamps (shown_of g) s ms) (among-stamps (shown_of g) t mt)
  where
    go : AreOf s t (shown_of h) → IsOf s (shown_of g) → IsOf t (shown_of g) → Precedes s t (shown_stamps g)
    go r a b = subst₂ (λ s t. Precedes s t (shown_stamps g)) r.3 r.4
        (stamps-precede (shown_of g) r.0 r.1 (shown-kept h g w lg lh r.0 r.1 r.2 (there r.0 (precedes-first (shown_of h) r.0 r.1 r.2) s r.3 a) (there r.1 (precedes-second (shown_of h) r.0 r.1 r.2) t r.4 b)))
      where
        there : (x : Insertion) → Among x (shown_of h) → (s : Stamp) → x.stamp ≡ s → IsOf s (shown_of g) → Among x (shown_of g)
        there x m s e q = subst (λ (z : Insertion). Among z (shown_of g)) (sym (live_agree h g w x q.0 (shown_live h x m) (shown_live g q.0 q.1) (same-from x.stamp q.0.stamp (e ∙ sym q.2)))) q.1

pub either_first : (h : OpSet) (s t : Stamp) → Among s (shown_stamps h) → Among t (shown_stamps h) → (s ≡ t) ⊎ (Precedes s t (shown_stamps h) ⊎ Precedes t s (shown_stamps h))
either_first h s t m n = go (precedes-cases (shown_stamps h) s t m n)
  where
    go : Precedes s t (shown_stamps h) ⊎ ((s ≡ t) ⊎ Precedes t s (shown_stamps h)) → (s ≡ t) ⊎ (Precedes s t (shown_stamps h) ⊎ Precedes t s (shown_stamps h))
    go (inl p) = inr (inl p)
    go (inr (inl e)) = inl e
    go (inr (inr p)) = inr (inr p)

pub not_both : (h : OpSet) → AllLawful h → (s t : Stamp) → Precedes s t (shown_stamps h) → Precedes t s (shown_stamps h) → ⊥
not_both h l s t p q = not_both_in (path_of h) (shown_of h) (own_order h l) s t (path-less (path_of h) (shown_of h) (own_order h l) s t p) q

turned_back : (h g : OpSet) → AllLawful g → KeepsOrder h g → KeepsOrder g h
turned_back h g l k s t p ms mt = go (either_first h s t ms mt)
  where
    in_g : Among s (shown_stamps g)
    in_g = precedes-first (shown_stamps g) s t p

    and_t : Among t (shown_stamps g)
    and_t = precedes-second (shown_stamps g) s t p

    go : (s ≡ t) ⊎ (Precedes s t (shown_stamps h) ⊎ Precedes t s (shown_stamps h)) → Precedes s t (shown_stamps h)
    go (inl e) = absurd (not_both g l s t p (subst₂ (λ a b. Precedes a b (shown_stamps g)) e (sym e) p))
    go (inr (inl q)) = q
    go (inr (inr q)) = absurd (not_both g l s t p (k t s q and_t in_g))

-- ---- one order

unforked-clear : (u : OpSet) → IsUnforked u → (o : Op) → Among o (in_order u) → is_clear_in u (stamp_of o) ≡ true
unfolding is_clear is_forked
unforked-clear u f o m = one-of-more (bearing (in_order u) (stamp_of o)) o (among-filter_from (λ p. same (stamp_of p) (stamp_of o)) (in_order u) o m (same-refl (stamp_of o)))
    (each-among (λ o. is_more (bearing (in_order u) (stamp_of o)) ≡ false) (in_order u) o f m)

module _ (u h : OpSet) (lu : AllLawful u) (lh : AllLawful h) (f : IsUnforked u) (w : IsWithin h u) where
  live-up : (n : ℕ) (x : Insertion) → x.stamp.counter < n → Among x (live_inserts_of h) → Among x (live_inserts_of u)
  live-up zero x lt m = absurd (omega (arith, lt))
  live-up (suc n) x lt m = go (op_from_live h lh x m) (λ y l k. live-up n y l k)
    where
      go : IsLiveOp h (insert_of x) → ((y : Insertion) → y.stamp.counter < n → Among y (live_inserts_of h) → Among y (live_inserts_of u)) → Among x (live_inserts_of u)
      go l rest = live_from_op u lu x ((has, unforked-clear u f (insert_of x) (among_held u (insert_of x) has)), hangs l.1)
        where
          has : has_op u (insert_of x) ≡ true
          has = w (insert_of x) l.0.0

          older : x.parent.counter < x.stamp.counter
          older = (each-among IsLawful (in_order h) (insert_of x) lh (among_held h (insert_of x) l.0.0)).2

          hangs : (x.parent ≡ head) ⊎ IsOfLiveInsert h x.parent → (x.parent ≡ head) ⊎ IsOfLiveInsert u x.parent
          hangs (inl e) = inl e
          hangs (inr y) = let c : y.0.stamp.counter ≡ x.parent.counter = ap (λ (s : Stamp). s.counter) y.2 in inr (y.0, rest y.0 (omega (arith, c, older, lt)) y.1, y.2)

  pub stands : StandsIn u h
  stands = record {
    live = λ x m. live-up (suc x.stamp.counter) x (omega arith) (shown_live h x m);
    in_order = (one_order h u lh lu f w).holds;
  }

less-or-tied : (r q : Ordering) → r ≡ ordering_reverse q → (r ≡ Equal) ⊎ ((r ≡ Less) ⊎ (q ≡ Less))
less-or-tied Less q e = inr (inl refl)
less-or-tied Equal q e = inl refl
less-or-tied Greater Less e = inr (inr refl)
less-or-tied Greater Equal e = cc
less-or-tied Greater Greater e = cc

pub total : (u : OpSet) → AllLawful u → IsUnforked u → IsOrderOfLive u
total u l f = record {
  never_itself = λ x b. not_less_itself (path_of u x.stamp) b;
  onward = λ x y z a b. path_total.trans (path_of u x.stamp) (path_of u y.stamp) (path_of u z.stamp) a b;
  either = λ x y m n. go x y m n (less-or-tied (path_cmp (path_of u x.stamp) (path_of u y.stamp)) (path_cmp (path_of u y.stamp) (path_of u x.stamp)) (path_total.antisymm (path_of u x.stamp) (path_of u y.stamp)));
}
  where
    go : (x y : Insertion) → Among x (live_inserts_of u) → Among y (live_inserts_of u) → (path_cmp (path_of u x.stamp) (path_of u y.stamp) ≡ Equal) ⊎ (StandsBefore u x y ⊎ StandsBefore u y x) → (x ≡ y) ⊎ (StandsBefore u x y ⊎ StandsBefore u y x)
    go x y m n (inl e) = inl ((one_order u u l l f (λ o h. h)).apart x y m n e)
    go x y m n (inr b) = inr b

alike : (u h g : OpSet) → StandsIn u h → StandsIn u g → KeepsOrder h g
alike u h g a b s t p ms mt = go (either_first g s t ms mt)
  where
    less : path_cmp (path_of u s) (path_of u t) ≡ Less
    less = path-less (path_of u) (shown_of h) a.in_order s t p

    go : (s ≡ t) ⊎ (Precedes s t (shown_stamps g) ⊎ Precedes t s (shown_stamps g)) → Precedes s t (shown_stamps g)
    go (inl e) = absurd (not_less_itself (path_of u t) (subst (λ (r : Stamp). path_cmp (path_of u r) (path_of u t) ≡ Less) e less))
    go (inr (inl q)) = q
    go (inr (inr q)) = absurd (not_both_in (path_of u) (shown_of g) b.in_order s t less q)

turned_round : (s t : Stamp) → StandAlike (s ∷ t ∷ []) (t ∷ s ∷ []) → s ≡ t
turned_round s t k = go (k s t (inl (refl, inl refl)) (inr (inl refl)) (inl refl))
  where
    go : Precedes s t (t ∷ s ∷ []) → s ≡ t
    go (inl p) = sym p.0
    go (inr (inl p)) = absurd p.1
    go (inr (inr p)) = absurd p

pub one_order_of_sets : OneOrderOfSets
one_order_of_sets = record {
  itself = λ ss s t p m n. p;
  turned = turned_round;
  either = either_first;
  not_both = not_both;
  larger = kept;
  back = turned_back;
  at_head = at_head;
  below = below;
  walked = walked;
  total = total;
  stands = stands;
  alike = alike;
}
