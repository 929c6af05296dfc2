-- One operation more that forks no stamp: the set's inserts, and its walk.
use Rattle.std.proofs.Common.{◌≡◌, Bool, true, false, cond, ◌||◌, List, [], ◌∷◌, refl, sym, ap, ◌∙◌, subst, ◌⊎◌, inl, inr, Some}
use Rattle.std.specs.List.{filter, list_any}
use Rattle.std.specs.Ordering.{is_eq, is_lt, eq_by_cmp}
use Rattle.std.proofs.lemmas.Cmp.{tied_itself}
use Rattle.std.proofs.lemmas.Bool.{true≢false}
use Rattle.std.specs.FinMap as fin
use Rattle.std.specs.declared.cmp.Ordering.TheVariants.{Less}
use Rattle.std.proofs.Math.Bool.{or-true}
use Rattle.desk_ops.specs.declared.op.Stamp.{Stamp}
use Rattle.desk_ops.specs.declared.op.Op.{Op}
use Rattle.desk_ops.specs.Op.{Insertion, stamp_of, IsLawful, insertion}
use Rattle.desk_ops.specs.Order.{op_cmp}
use Rattle.desk_ops.specs.Stamp.{same, before, head}
use Rattle.desk_ops.specs.OpSet.{OpSet, has_op, with_op, in_order}
use Rattle.desk_ops.specs.Walk.{walk_from, walk}
use Rattle.desk_ops.specs.Scan.{IsAscending, with_insert, scan_insert}
use Rattle.desk_ops.specs.Held.{bearing, is_one, is_clear, is_borne, clear_ops, clear_inserts}
use Rattle.desk_ops.specs.Lists.{Among}
use Rattle.desk_ops.proofs.Lists.{Each, Each-weaker, each-among, each-from_among, each-filter, among-filter, among-filter_from, among-filter_map_from}
use Rattle.desk_ops.proofs.Stamps.{same-refl, same-symm, by_cases, before-irrefl, before-trans, before-asym, before-other, is_equal}
use Rattle.desk_ops.proofs.Scans.{place-walk, with-later, with-here}
use Rattle.desk_ops.specs.OrderLaws.{op_total, op_antisymmetric}
use Rattle.desk_ops.proofs.Unions.{has_op-with_op}
use Rattle.desk_ops.proofs.Means.{IsOrdered, ordered, among-any, any-among, IsClearInsert, clear_insert, clear_one, insert_stamp, some-same, clear_ascending, clear_grows, insert_parent, counter-before}
use Rattle.desk_ops.proofs.Tree.{walk-clear}

-- ---- ascending lists

pub ascending-same : (xs ys : List Insertion) → IsAscending xs → IsAscending ys → ((z : Insertion) → Among z xs → Among z ys) → ((z : Insertion) → Among z ys → Among z xs) → xs ≡ ys
ascending-same [] [] ux uy f g = refl
ascending-same [] (y ∷ ys) ux uy f g = absurd (g y (inl refl))
ascending-same (x ∷ xs) [] ux uy f g = absurd (f x (inl refl))
ascending-same (x ∷ xs) (y ∷ ys) ux uy f g = λ i. one i ∷ ascending-same xs ys ux.1 uy.1 (λ z m. rest_f z m (f z (inr m))) (λ z m. rest_g z m (g z (inr m))) i
  where
    firsts : Among x (y ∷ ys) → Among y (x ∷ xs) → x ≡ y
    firsts (inl e) n = sym e
    firsts (inr m) (inl e) = e
    firsts (inr m) (inr n) = absurd (true≢false (sym (each-among (λ z. before x.stamp z.stamp ≡ true) xs y ux.0 n) ∙ before-asym y.stamp x.stamp (each-among (λ z. before y.stamp z.stamp ≡ true) ys x uy.0 m)))

    one : x ≡ y
    one = firsts (f x (inl refl)) (g y (inl refl))

    rest_f : (z : Insertion) → Among z xs → Among z (y ∷ ys) → Among z ys
    rest_f z m (inl e) = absurd (before-irrefl x.stamp (subst (λ (w : Insertion). before x.stamp w.stamp ≡ true) (sym e ∙ sym one) (each-among (λ z. before x.stamp z.stamp ≡ true) xs z ux.0 m)))
    rest_f z m (inr n) = n

    rest_g : (z : Insertion) → Among z ys → Among z (x ∷ xs) → Among z xs
    rest_g z m (inl e) = absurd (before-irrefl y.stamp (subst (λ (w : Insertion). before y.stamp w.stamp ≡ true) (sym e ∙ one) (each-among (λ z. before y.stamp z.stamp ≡ true) ys z uy.0 m)))
    rest_g z m (inr n) = n

pub among-with_insert : (e : Insertion) (xs : List Insertion) (z : Insertion) → Among z (with_insert e xs) → (e ≡ z) ⊎ Among z xs
unfolding with_insert
among-with_insert e [] z m = m
among-with_insert e (x ∷ xs) z m =
    by_cases (before x.stamp e.stamp)
    (λ h. go (among-with_insert e xs z) (subst (Among z) (with-later e x xs h) m))
    (λ h. subst (Among z) (with-here e x xs h) m)
  where
    go : (Among z (with_insert e xs) → (e ≡ z) ⊎ Among z xs) → Among z (x ∷ with_insert e xs) → (e ≡ z) ⊎ Among z (x ∷ xs)
    go f (inl i) = inr (inl i)
    go f (inr n) = turn (f n)
      where
        turn : (e ≡ z) ⊎ Among z xs → (e ≡ z) ⊎ Among z (x ∷ xs)
        turn (inl i) = inl i
        turn (inr n) = inr (inr n)

pub with_insert-among : (e : Insertion) (xs : List Insertion) (z : Insertion) → (e ≡ z) ⊎ Among z xs → Among z (with_insert e xs)
unfolding with_insert
with_insert-among e [] z m = m
with_insert-among e (x ∷ xs) z m =
    by_cases (before x.stamp e.stamp)
    (λ h. subst (Among z) (sym (with-later e x xs h)) (go (with_insert-among e xs z) m))
    (λ h. subst (Among z) (sym (with-here e x xs h)) m)
  where
    go : ((e ≡ z) ⊎ Among z xs → Among z (with_insert e xs)) → (e ≡ z) ⊎ Among z (x ∷ xs) → Among z (x ∷ with_insert e xs)
    go f (inl i) = inr (f (inl i))
    go f (inr (inl i)) = inl i
    go f (inr (inr n)) = inr (f (inr n))

pub with_insert-ascending : (e : Insertion) (xs : List Insertion) → IsAscending xs → Each (λ x. same x.stamp e.stamp ≡ false) xs → IsAscending (with_insert e xs)
unfolding with_insert
with_insert-ascending e [] up fresh = (tt, tt)
with_insert-ascending e (x ∷ xs) up fresh =
    by_cases (before x.stamp e.stamp)
    (λ h. rw (with-later e x xs h) (
      each-from_among (λ y. before x.stamp y.stamp ≡ true) (with_insert e xs) (λ y m. later h y (among-with_insert e xs y m)),
      with_insert-ascending e xs up.1 fresh.1,
    ))
    (λ h. rw (with-here e x xs h)
    ((first h, Each-weaker (λ y. before x.stamp y.stamp ≡ true) (λ y. before e.stamp y.stamp ≡ true) (λ y k. before-trans e.stamp x.stamp y.stamp (first h) k) xs up.0), up))
  where
    first : before x.stamp e.stamp ≡ false → before e.stamp x.stamp ≡ true
    first h = before-other x.stamp e.stamp h fresh.0

    later : before x.stamp e.stamp ≡ true → (y : Insertion) → (e ≡ y) ⊎ Among y xs → before x.stamp y.stamp ≡ true
    later h y (inl i) = subst (λ (y : Insertion). before x.stamp y.stamp ≡ true) i h
    later h y (inr m) = each-among (λ y. before x.stamp y.stamp ≡ true) xs y up.0 m

-- ---- the operations of a set with one more

pub among-with_op : (h : OpSet) (o p : Op) → Among p (in_order (with_op h o)) → (o ≡ p) ⊎ Among p (in_order h)
among-with_op h o p m = go (sym (has_op-with_op h o p) ∙ fin.contains_key-keys (with_op h o) p ∙ among-any p (in_order (with_op h o)) m)
  where
    go : (eq_by_cmp op_cmp p o || has_op h p) ≡ true → (o ≡ p) ⊎ Among p (in_order h)
    go e = by_cases (eq_by_cmp op_cmp p o)
        (λ k. inl (sym (op_antisymmetric p o (is_equal (op_cmp p o) k))))
        (λ k. inr (any-among p (in_order h) (sym (fin.contains_key-keys h p) ∙ sym (ap (λ b. b || has_op h p) k) ∙ e)))

pub with_op-among : (h : OpSet) (o p : Op) → (o ≡ p) ⊎ Among p (in_order h) → Among p (in_order (with_op h o))
with_op-among h o p m = any-among p (in_order (with_op h o)) (sym (fin.contains_key-keys (with_op h o) p) ∙ has_op-with_op h o p ∙ go m)
  where
    go : (o ≡ p) ⊎ Among p (in_order h) → (eq_by_cmp op_cmp p o || has_op h p) ≡ true
    go (inl e) = ap (λ b. b || has_op h p) (ap is_eq (ap (op_cmp p) e ∙ tied_itself op_total p))
    go (inr m) = ap (λ b. eq_by_cmp op_cmp p o || b) (fin.contains_key-keys h p ∙ among-any p (in_order h) m) ∙ or-true (eq_by_cmp op_cmp p o)

-- ---- clear

pub ordered_filter : (f : Op → Bool) (os : List Op) → IsOrdered os → IsOrdered (filter f os)
ordered_filter f [] up = tt
ordered_filter f (o ∷ os) up = elim (f o) as (λ b. IsOrdered (cond b (o ∷ filter f os) (filter f os))) [
  | true ↦ (each-filter (λ p. op_cmp o p ≡ Less) f os up.0, ordered_filter f os up.1)
  | false ↦ ordered_filter f os up.1
]

one_from : (os : List Op) → IsOrdered os → (o : Op) → Among o os → ((p : Op) → Among p os → p ≡ o) → is_one os ≡ true
one_from [] up o m f = absurd m
one_from (a ∷ []) up o m f = refl
one_from (a ∷ b ∷ os) up o m f = absurd (true≢false (sym (ap is_lt up.0.0) ∙ ap is_lt (ap (op_cmp a) (f b (inr (inl refl)) ∙ sym (f a (inl refl))) ∙ tied_itself op_total a)))

pub clear_from : (ops : List Op) → IsOrdered ops → (o : Op) → Among o ops → ((p : Op) → Among p ops → same (stamp_of p) (stamp_of o) ≡ true → p ≡ o) → is_clear ops (stamp_of o) ≡ true
unfolding is_clear
clear_from ops up o m f =
    one_from (bearing ops (stamp_of o)) (ordered_filter (λ p. same (stamp_of p) (stamp_of o)) ops up) o (among-filter_from (λ p. same (stamp_of p) (stamp_of o)) ops o m (same-refl (stamp_of o)))
    (λ p n. let q = among-filter (λ p. same (stamp_of p) (stamp_of o)) ops p n in f p q.0 q.1)

pub insert_clear : (ops : List Op) (x : Insertion) → IsClearInsert ops x → Among x (clear_inserts ops)
unfolding clear_inserts clear_ops
insert_clear ops x c = among-filter_map_from insertion (clear_ops ops) c.op x (among-filter_from (λ o. is_clear ops (stamp_of o)) ops c.op c.held c.clear) c.is

borne : (ops : List Op) (s : Stamp) → is_borne ops s ≡ false → (p : Op) → Among p ops → same (stamp_of p) s ≡ false
unfolding is_borne
borne [] s h p m = absurd m
borne (o ∷ os) s h p (inl e) = by_cases (same (stamp_of o) s)
    (λ k. absurd (true≢false (sym (ap (λ b. b || list_any (λ o. same (stamp_of o) s) os) k) ∙ h)))
    (λ k. subst (λ q. same (stamp_of q) s ≡ false) e k)
borne (o ∷ os) s h p (inr m) = by_cases (same (stamp_of o) s)
    (λ k. absurd (true≢false (sym (ap (λ b. b || list_any (λ o. same (stamp_of o) s) os) k) ∙ h)))
    (λ k. borne os s (sym (ap (λ b. b || list_any (λ o. same (stamp_of o) s) os) k) ∙ h) p m)

-- ---- the arrival

-- an insert whose stamp nothing bears
module _ (h : OpSet) (o : Op) (x : Insertion) (is : insertion o ≡ Some x) (fresh : is_borne (in_order h) x.stamp ≡ false) where
  apart_from : (p : Op) → Among p (in_order h) → same (stamp_of p) (stamp_of o) ≡ false
  apart_from p m = subst (λ s. same (stamp_of p) s ≡ false) (sym (insert_stamp o x is)) (borne (in_order h) x.stamp fresh p m)

  new_clear : is_clear (in_order (with_op h o)) (stamp_of o) ≡ true
  new_clear = clear_from (in_order (with_op h o)) (ordered (with_op h o)) o (with_op-among h o o (inl refl)) (λ p m k. go p (among-with_op h o p m) k)
    where
      go : (p : Op) → (o ≡ p) ⊎ Among p (in_order h) → same (stamp_of p) (stamp_of o) ≡ true → p ≡ o
      go p (inl e) k = sym e
      go p (inr m) k = absurd (true≢false (sym k ∙ apart_from p m))

  -- the others are clear as they were
  clear_after : (p : Op) → Among p (in_order h) → is_clear (in_order h) (stamp_of p) ≡ true → is_clear (in_order (with_op h o)) (stamp_of p) ≡ true
  clear_after p m c = clear_from (in_order (with_op h o)) (ordered (with_op h o)) p (with_op-among h o p (inr m)) (λ q n k. go q (among-with_op h o q n) k)
    where
      go : (q : Op) → (o ≡ q) ⊎ Among q (in_order h) → same (stamp_of q) (stamp_of p) ≡ true → q ≡ p
      go q (inl e) k = absurd (true≢false (sym (same-symm (stamp_of p) (stamp_of q) ∙ k) ∙ subst (λ r. same (stamp_of p) (stamp_of r) ≡ false) e (apart_from p m)))
      go q (inr n) k = clear_one (in_order h) (stamp_of p) c q p n m k (same-refl (stamp_of p))

  clear_before : (p : Op) → Among p (in_order h) → is_clear (in_order (with_op h o)) (stamp_of p) ≡ true → is_clear (in_order h) (stamp_of p) ≡ true
  clear_before p m c = clear_from (in_order h) (ordered h) p m (λ q n k. clear_one (in_order (with_op h o)) (stamp_of p) c q p (with_op-among h o q (inr n)) (with_op-among h o p (inr m)) k (same-refl (stamp_of p)))

  fresh_inserts : Each (λ y. same y.stamp x.stamp ≡ false) (clear_inserts (in_order h))
  fresh_inserts = each-from_among (λ y. same y.stamp x.stamp ≡ false) (clear_inserts (in_order h)) (λ y m. go y (clear_insert (in_order h) y m))
    where
      go : (y : Insertion) → IsClearInsert (in_order h) y → same y.stamp x.stamp ≡ false
      go y c = subst (λ s. same s x.stamp ≡ false) (insert_stamp c.op y c.is) (borne (in_order h) x.stamp fresh c.op c.held)

  -- the clear inserts are those before, and this one in its place
  pub inserts_after : clear_inserts (in_order (with_op h o)) ≡ with_insert x (clear_inserts (in_order h))
  inserts_after = ascending-same (clear_inserts (in_order (with_op h o))) (with_insert x (clear_inserts (in_order h))) (clear_ascending (with_op h o)) (with_insert-ascending x (clear_inserts (in_order h)) (clear_ascending h) fresh_inserts)
      (λ z m. with_insert-among x (clear_inserts (in_order h)) z (to z (clear_insert (in_order (with_op h o)) z m)))
      (λ z m. from z (among-with_insert x (clear_inserts (in_order h)) z m))
    where
      to : (z : Insertion) → IsClearInsert (in_order (with_op h o)) z → (x ≡ z) ⊎ Among z (clear_inserts (in_order h))
      to z c = go (among-with_op h o c.op c.held)
        where
          go : (o ≡ c.op) ⊎ Among c.op (in_order h) → (x ≡ z) ⊎ Among z (clear_inserts (in_order h))
          go (inl e) = inl (some-same x z (sym is ∙ ap insertion e ∙ c.is))
          go (inr m) = inr (insert_clear (in_order h) z (record { op = c.op; held = m; clear = clear_before c.op m c.clear; is = c.is }))

      from : (z : Insertion) → (x ≡ z) ⊎ Among z (clear_inserts (in_order h)) → Among z (clear_inserts (in_order (with_op h o)))
      from z (inl e) = insert_clear (in_order (with_op h o)) z (record { op = o; held = with_op-among h o o (inl refl); clear = new_clear; is = is ∙ ap Some e })
      from z (inr m) = again (clear_insert (in_order h) z m)
        where
          again : IsClearInsert (in_order h) z → Among z (clear_inserts (in_order (with_op h o)))
          again c = insert_clear (in_order (with_op h o)) z (record { op = c.op; held = with_op-among h o c.op (inr c.held); clear = clear_after c.op c.held c.clear; is = c.is })

  -- where no clear insert waits for it, the walk is the walk before with it where the scan puts it
  pub walk_after : Each IsLawful (in_order h) → IsLawful o → Each (λ y. same y.parent x.stamp ≡ false) (clear_inserts (in_order h)) → walk (in_order (with_op h o)) ≡ scan_insert x (walk (in_order h))
  walk_after lawful one none =
      walk-clear (with_op h o) all ∙ ap (λ l. walk_from l head) inserts_after
      ∙ place-walk x (clear_inserts (in_order h)) (clear_ascending h)
      (record { parent_older = insert_parent (λ p s. before p s ≡ true) o x is one (λ s p _ k. counter-before p s k); fresh = fresh_inserts; childless = none })
      head (clear_grows (in_order h) lawful).1
      ∙ ap (scan_insert x) (sym (walk-clear h lawful))
    where
      all : Each IsLawful (in_order (with_op h o))
      all = each-from_among IsLawful (in_order (with_op h o)) (λ p m. go p (among-with_op h o p m))
        where
          go : (p : Op) → (o ≡ p) ⊎ Among p (in_order h) → IsLawful p
          go p (inl e) = subst IsLawful e one
          go p (inr m) = each-among IsLawful (in_order h) p lawful m
