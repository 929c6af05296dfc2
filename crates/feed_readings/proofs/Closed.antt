-- What a closed part of a set shows is the walk of the whole, without what it does not show.
use Rattle.std.proofs.Common.{◌≡◌, ◌∙◌, ℕ, zero, suc, ◌<◌, Bool, true, false, not, ◌&&◌, cond, List, [], ◌∷◌, map, refl, sym, ap, ap₂, subst, ◌⊎◌, inl, inr, arith}
use Rattle.std.specs.List.{filter}
use Rattle.std.specs.declared.cmp.Ordering.TheVariants.{Less}
use Rattle.std.proofs.lemmas.Bool.{true≢false}
use Rattle.desk_ops.specs.declared.op.Op.{Op}
use Rattle.desk_ops.specs.declared.op.Stamp.{Stamp}
use Rattle.desk_ops.specs.Held.{is_borne_in, is_clear_in, live_inserts_of}
use Rattle.desk_ops.specs.Lists.{Among}
use Rattle.desk_ops.specs.Live.{insert_of, IsOfLiveInsert}
use Rattle.desk_ops.specs.Op.{Insertion, IsLawful, stamp_of}
use Rattle.desk_ops.specs.OpSet.{OpSet, has_op, in_order}
use Rattle.desk_ops.specs.PathOrder.{InPathOrder, path_cmp, path_of}
use Rattle.desk_ops.specs.Shown.{is_deleted_in, shown, shown_of}
use Rattle.desk_ops.specs.Stamp.{head}
use Rattle.desk_ops.specs.Walk.{walk_of}
use Rattle.desk_ops.proofs.Bearers.{borne_op, op_borne}
use Rattle.desk_ops.proofs.Ends.{among_held, live_from_op, op_from_live}
use Rattle.desk_ops.proofs.Kept.{not_less_itself}
use Rattle.desk_ops.proofs.Lists.{among-filter, among-filter_from, each-among}
use Rattle.desk_ops.proofs.One.{order-filter}
use Rattle.desk_ops.proofs.Parts.{one_unforked, shown_live, unforked_clear, unforked_one}
use Rattle.desk_ops.proofs.Paths.{path_total}
use Rattle.desk_ops.proofs.Tree.{live-walk, walk-live}
use Rattle.desk_replica.proofs.Orders.{one_order_of_sets}
use Rattle.desk_walk.specs.Following.{entries_of, entry_of}
use Rattle.feed_readings.specs.declared.reading.Shown.{Shown}
use Rattle.feed_readings.specs.Closed.{IsClosedPart, PartsShowOfTheWalk, shows}
use Rattle.feed_readings.specs.Merged.{entered, inserted, shown_list}

-- ---- two lists in one order, with the same elements

cannot : (p : Stamp → List Stamp) (x y : Insertion) → path_cmp (p x.stamp) (p y.stamp) ≡ Less → path_cmp (p y.stamp) (p x.stamp) ≡ Less → ⊥
cannot p x y a b = not_less_itself (p x.stamp) (path_total.trans (p x.stamp) (p y.stamp) (p x.stamp) a b)

abbrev AllIn : List Insertion → List Insertion → Type 0
AllIn xs ys = (z : Insertion) → Among z xs → Among z ys

same_first : (p : Stamp → List Stamp) (x : Insertion) (xs : List Insertion) (y : Insertion) (ys : List Insertion) → InPathOrder p (x ∷ xs) → InPathOrder p (y ∷ ys)
    → Among x (y ∷ ys) → Among y (x ∷ xs) → y ≡ x
same_first p x xs y ys o q (inl e) n = e
same_first p x xs y ys o q (inr m) (inl e) = sym e
same_first p x xs y ys o q (inr m) (inr n) =
    absurd (cannot p x y (each-among (λ z. path_cmp (p x.stamp) (p z.stamp) ≡ Less) xs y o.0 n) (each-among (λ z. path_cmp (p y.stamp) (p z.stamp) ≡ Less) ys x q.0 m))

-- what is behind the first of the one is behind that of the other
behind_first : (p : Stamp → List Stamp) (x : Insertion) (xs ys : List Insertion) → InPathOrder p (x ∷ xs) → AllIn (x ∷ xs) (x ∷ ys) → AllIn xs ys
behind_first p x xs ys o h z m = by (h z (inr m))
  where
    by : Among z (x ∷ ys) → Among z ys
    by (inl e) = absurd (not_less_itself (p x.stamp) (subst (λ (w : Insertion). path_cmp (p x.stamp) (p w.stamp) ≡ Less) (sym e) (each-among (λ z. path_cmp (p x.stamp) (p z.stamp) ≡ Less) xs z o.0 m)))
    by (inr n) = n

one_list : (p : Stamp → List Stamp) (xs ys : List Insertion) → InPathOrder p xs → InPathOrder p ys → AllIn xs ys → AllIn ys xs → xs ≡ ys
one_list p [] [] o q h k = refl
one_list p [] (y ∷ ys) o q h k = absurd (k y (inl refl))
one_list p (x ∷ xs) [] o q h k = absurd (h x (inl refl))
one_list p (x ∷ xs) (y ∷ ys) o q h k =
    let first : y ≡ x = same_first p x xs y ys o q (h x (inl refl)) (k y (inl refl)) in
    let behind : AllIn xs ys = behind_first p x xs ys o (subst (λ (w : Insertion). AllIn (x ∷ xs) (w ∷ ys)) first h) in
    let back : AllIn ys xs = behind_first p y ys xs q (subst (λ (w : Insertion). AllIn (y ∷ ys) (w ∷ xs)) (sym first) k) in
    ap₂ (λ (w : Insertion) (l : List Insertion). w ∷ l) (sym first) (one_list p xs ys o.1 q.1 behind back)

-- ---- borne

pub first_true : (a b : Bool) → (a && b) ≡ true → a ≡ true
first_true true b e = refl
first_true false b e = e

pub rest_true : (a b : Bool) → (a && b) ≡ true → b ≡ true
rest_true true b e = e
rest_true false b e = absurd (true≢false (sym e))

pub both_true : (a b : Bool) → a ≡ true → b ≡ true → (a && b) ≡ true
both_true a b e f = ap (λ (c : Bool). c && b) e ∙ f

abbrev pub IsBearer : OpSet → Stamp → Type 0
IsBearer h s = (o : Op) × (has_op h o ≡ true) × (stamp_of o ≡ s)

module _ (u h : OpSet) (c : IsClosedPart u h) where
  own_unforked : (o p : Op) → has_op h o ≡ true → has_op h p ≡ true → stamp_of o ≡ stamp_of p → o ≡ p
  own_unforked o p m n e = unforked_one u c.unforked o p (c.within o m) (c.within p n) e

  is_clear : (o : Op) → has_op h o ≡ true → is_clear_in h (stamp_of o) ≡ true
  is_clear o m = unforked_clear h (one_unforked h own_unforked) o m

  -- a live insert of the whole that the part bears is one of the part
  held_here : (x : Insertion) → Among x (live_inserts_of u) → is_borne_in h x.stamp ≡ true → has_op h (insert_of x) ≡ true
  held_here x m b =
      let r : IsBearer h x.stamp = borne_op h x.stamp b in
      let is : r.0 ≡ insert_of x = unforked_one u c.unforked r.0 (insert_of x) (c.within r.0 r.1) (op_from_live u c.lawful x m).0.0 r.2 in
      subst (λ (o : Op). has_op h o ≡ true) is r.1

  live_here : (n : ℕ) (x : Insertion) → x.stamp.counter < n → Among x (live_inserts_of u) → is_borne_in h x.stamp ≡ true → Among x (live_inserts_of h)
  live_here zero x lt m b = absurd (omega (arith, lt))
  live_here (suc n) x lt m b =
      live_from_op h c.own x ((held, is_clear (insert_of x) held), by (λ y less l d. live_here n y less l d) (op_from_live u c.lawful x m).1 (c.closed x m held))
    where
      held : has_op h (insert_of x) ≡ true
      held = held_here x m b

      older : x.parent.counter < x.stamp.counter
      older = (each-among IsLawful (in_order h) (insert_of x) c.own (among_held h (insert_of x) held)).2

      by : ((y : Insertion) → y.stamp.counter < n → Among y (live_inserts_of u) → is_borne_in h y.stamp ≡ true → Among y (live_inserts_of h))
          → (x.parent ≡ head) ⊎ IsOfLiveInsert u x.parent → (x.parent ≡ head) ⊎ (is_borne_in h x.parent ≡ true) → (x.parent ≡ head) ⊎ IsOfLiveInsert h x.parent
      by rest (inl e) d = inl e
      by rest (inr y) (inl e) = inl e
      by rest (inr y) (inr d) =
          let at : y.0.stamp.counter ≡ x.parent.counter = ap (λ (s : Stamp). s.counter) y.2 in
          inr (y.0, rest y.0 (omega (arith, at, older, lt)) y.1 (ap (is_borne_in h) y.2 ∙ d), y.2)

  -- what is kept of the walk of the whole
  is_kept : Insertion → Bool
  is_kept x = is_borne_in h x.stamp && not (is_deleted_in h x.stamp)

  kept_shown : AllIn (filter is_kept (walk_of u)) (shown_of h)
  unfolding shown is_kept
  kept_shown x m =
      let r = among-filter is_kept (walk_of u) x m in
      let live : Among x (live_inserts_of u) = walk-live (in_order u) x r.0 in
      let here : Among x (live_inserts_of h) = live_here (suc x.stamp.counter) x (omega arith) live (first_true (is_borne_in h x.stamp) (not (is_deleted_in h x.stamp)) r.1) in
      among-filter_from (λ x. not (is_deleted_in h x.stamp)) (walk_of h) x (live-walk h c.own x here) (rest_true (is_borne_in h x.stamp) (not (is_deleted_in h x.stamp)) r.1)

  shown_kept : AllIn (shown_of h) (filter is_kept (walk_of u))
  unfolding shown is_kept
  shown_kept x m =
      let r = among-filter (λ x. not (is_deleted_in h x.stamp)) (walk_of h) x m in
      let held : has_op h (insert_of x) ≡ true = (op_from_live h c.own x (shown_live h x m)).0.0 in
      let live : Among x (live_inserts_of u) = (one_order_of_sets.stands u h c.lawful c.own c.unforked c.within).live x m in
      among-filter_from is_kept (walk_of u) x (live-walk u c.lawful x live) (both_true (is_borne_in h x.stamp) (not (is_deleted_in h x.stamp)) (op_borne h x.stamp (insert_of x, held, refl)) r.1)

  shown_is_kept : shown_of h ≡ filter is_kept (walk_of u)
  shown_is_kept =
      one_list (path_of u) (shown_of h) (filter is_kept (walk_of u)) (one_order_of_sets.stands u h c.lawful c.own c.unforked c.within).in_order
      (order-filter (path_of u) is_kept (walk_of u) (one_order_of_sets.walked u c.lawful)) shown_kept kept_shown

  as_entries : (xs : List Insertion) → map inserted (filter is_kept xs) ≡ map entered (filter (shows h) (map (entry_of u) xs))
  unfolding is_kept
  as_entries [] = refl
  as_entries (x ∷ xs) = by (as_entries xs) (is_borne_in h x.stamp && not (is_deleted_in h x.stamp))
    where
      by : map inserted (filter is_kept xs) ≡ map entered (filter (shows h) (map (entry_of u) xs)) → (b : Bool)
          → map inserted (cond b (x ∷ filter is_kept xs) (filter is_kept xs)) ≡ map entered (cond b (entry_of u x ∷ filter (shows h) (map (entry_of u) xs)) (filter (shows h) (map (entry_of u) xs)))
      by rest true = ap (λ (l : List Shown). inserted x ∷ l) rest
      by rest false = rest

  pub shown_of_part : shown_list h ≡ map entered (filter (shows h) (entries_of u))
  shown_of_part = ap (map inserted) shown_is_kept ∙ as_entries (walk_of u)

pub parts_show : PartsShowOfTheWalk
parts_show whole part c = shown_of_part whole part c
