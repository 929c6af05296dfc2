-- Where a search among rising operations ends, and what it says of the set.
use Rattle.std.proofs.Common.{◌≡◌, ℕ, zero, suc, ◌+◌, ◌-◌, ◌<◌, ◌≤◌, ◌⊎◌, inl, inr, Bool, true, false, not, List, [], ◌∷◌, length, take, drop, get_or, refl, sym, ap, subst, ◌∙◌, arith}
use Rattle.std.specs.Prelude.{T, Some, None}
use Rattle.std.specs.Ordering.{is_lt, is_eq, eq_by_cmp}
use Rattle.std.specs.declared.cmp.Ordering.{Ordering}
use Rattle.std.specs.declared.cmp.Ordering.TheVariants.{Less, Equal, Greater}
use Rattle.std.specs.List.{list_any, AllByRecursion, AllWithin}
use Rattle.std.specs.List.Sorted.{IsPartitionedBy}
use Rattle.std.proofs.Math.Nat.{eq-or-lt_of_le}
use Rattle.std.proofs.lemmas.Bool.{true≢false, cases_lt, not-true, not_from_false}
use Rattle.std.proofs.lemmas.Cmp.{tied_itself}
use Rattle.std.proofs.lemmas.List.{take-append-drop, get_or_default, drop_all, drop_more}
use Rattle.desk_ops.specs.declared.op.Stamp.{Stamp}
use Rattle.desk_ops.specs.declared.op.Op.{Op}
use Rattle.desk_ops.specs.Op.{stamp_of}
use Rattle.desk_ops.specs.Order.{op_cmp}
use Rattle.desk_ops.specs.OrderLaws.{op_total}
use Rattle.desk_ops.specs.OpSet.{is_rising, from_rising, has_op}
use Rattle.desk_ops.specs.Held.{bears, bearing, sole, is_borne}
use Rattle.desk_ops.specs.Stamp.{same, before}
use Rattle.desk_ops.specs.Lists.{Among}
use Rattle.desk_ops.proofs.Stamps.{by_cases, is_less, is_equal, same-true, before-squeeze}
use Rattle.desk_ops.proofs.OpSets.{IsGap, rising_less, has_op-from_rising, absent_from_gap, present_at, greater, lesser, rising-drop}
use Rattle.desk_ops.proofs.Lists.{among-filter, among-filter_from}
use Rattle.desk_ops.proofs.Deletes.{any_some, some_any}
use Rattle.desk_ops.proofs.Tree.{filter-hit}
use Rattle.desk_ops.proofs.Bearers.{stamp_not_before, ordered_rising, bearing-older, bearing-first}
use Rattle.list_pages.specs.Pages.{IsEdge}

pub taken : (P : Op → Type 0) (ops : List Op) (i : ℕ) → AllWithin P ops 0 i → i ≤ length ops → AllByRecursion P (take i ops)
taken P [] zero all le = tt
taken P [] (suc i) all le = tt
taken P (y ∷ ops) zero all le = tt
taken P (y ∷ ops) (suc i) all le = (all 0 y (omega arith) (omega arith), taken P ops i (λ k d low high. all (suc k) d (omega arith) (omega arith)) (omega arith))

pub dropped : (P : Op → Type 0) (ops : List Op) (i : ℕ) → AllWithin P ops i (length ops) → AllByRecursion P (drop i ops)
dropped P [] zero all = tt
dropped P [] (suc i) all = tt
dropped P (y ∷ ops) zero all = (all 0 y (omega arith) (omega arith), dropped P ops zero (λ k d low high. all (suc k) d (omega arith) (omega arith)))
dropped P (y ∷ ops) (suc i) all = dropped P ops i (λ k d low high. all (suc k) d (omega arith) (omega arith))

-- ---- an edge among operations of which those that are picked stand first

module _ (p : Op → Bool) (ops : List Op) (part : IsPartitionedBy p ops) (i : ℕ) (edge : IsEdge p ops i) where
  pub picked-at : (k : ℕ) (d : Op) → k < i → p (get_or ops k d) ≡ true
  picked-at k d high = let w = edge.within in part k (i - 1) d (omega arith) (omega (arith, high, w)) (edge.below d (omega (arith, high)))

  pub stops-at : (k : ℕ) (d : Op) → i ≤ k → k < length ops → p (get_or ops k d) ≡ false
  stops-at k d low high = by_cases (p (get_or ops k d)) (λ e. absurd (true≢false (sym (part i k d low high e) ∙ edge.stops d (omega (arith, low, high))))) (λ e. e)

  pub picked-all : AllByRecursion (λ y. p y ≡ true) (take i ops)
  picked-all = taken (λ y. p y ≡ true) ops i (λ k d low high. picked-at k d high) edge.within

abbrev pub earlier : Op → Op → Bool
earlier op x = is_lt (op_cmp x op)

abbrev pub up_to : Op → Op → Bool
up_to op x = not (is_lt (op_cmp op x))

abbrev pub below : Stamp → Op → Bool
below s x = before (stamp_of x) s

pub earlier-first : (op : Op) (ops : List Op) → T (is_rising ops) → IsPartitionedBy (earlier op) ops
earlier-first op ops rising i j d le lt e = go (eq-or-lt_of_le le)
  where
    go : (i ≡ j) ⊎ (i < j) → earlier op (get_or ops i d) ≡ true
    go (inl q) = ap (λ k. earlier op (get_or ops k d)) q ∙ e
    go (inr l) = ap is_lt (op_total.trans (get_or ops i d) (get_or ops j d) op (rising_less ops i j d rising l lt) (is_less (op_cmp (get_or ops j d) op) e))

pub up_to-first : (op : Op) (ops : List Op) → T (is_rising ops) → IsPartitionedBy (up_to op) ops
up_to-first op ops rising i j d le lt e = go (eq-or-lt_of_le le)
  where
    go : (i ≡ j) ⊎ (i < j) → up_to op (get_or ops i d) ≡ true
    go (inl q) = ap (λ k. up_to op (get_or ops k d)) q ∙ e
    go (inr l) = by_cases (is_lt (op_cmp op (get_or ops i d)))
        (λ h. absurd (true≢false (sym (ap is_lt (op_total.trans op (get_or ops i d) (get_or ops j d) (is_less (op_cmp op (get_or ops i d)) h) (rising_less ops i j d rising l lt))) ∙ not-true (is_lt (op_cmp op (get_or ops j d))) e)))
        (λ h. not_from_false (is_lt (op_cmp op (get_or ops i d))) h)

pub below-first : (s : Stamp) (ops : List Op) → T (is_rising ops) → IsPartitionedBy (below s) ops
below-first s ops rising i j d le lt e = go (eq-or-lt_of_le le)
  where
    go : (i ≡ j) ⊎ (i < j) → below s (get_or ops i d) ≡ true
    go (inl q) = ap (λ k. below s (get_or ops k d)) q ∙ e
    go (inr l) =
        by_cases (below s (get_or ops i d))
        (λ h. h)
        (λ h. absurd (true≢false (sym (before-squeeze (stamp_of (get_or ops j d)) (stamp_of (get_or ops i d)) s e h)
        ∙ stamp_not_before (get_or ops i d) (get_or ops j d) (rising_less ops i j d rising l lt))))

-- ---- an operation's place

not-less : (x y : Op) → is_lt (op_cmp y x) ≡ false → eq_by_cmp op_cmp y x ≡ false → op_cmp y x ≡ Greater
not-less x y l n = go (op_cmp y x) refl
  where
    go : (r : Ordering) → op_cmp y x ≡ r → op_cmp y x ≡ Greater
    go Less e = absurd (true≢false (sym (ap is_lt e) ∙ l))
    go Equal e = absurd (true≢false (sym (ap is_eq e) ∙ n))
    go Greater e = e

module _ (op : Op) (ops : List Op) (rising : T (is_rising ops)) (i : ℕ) (edge : IsEdge (earlier op) ops i) where
  -- where the one at the edge is another, the operation belongs there
  pub gap-at : ((d : Op) → i < length ops → eq_by_cmp op_cmp (get_or ops i d) op ≡ false) → IsGap ops op i
  gap-at other = record {
    below = taken (λ y. op_cmp y op ≡ Less) ops i (λ k d low high. is_less (op_cmp (get_or ops k d) op) (picked-at (earlier op) ops (earlier-first op ops rising) i edge k d high)) edge.within;
    above = dropped (λ y. op_cmp y op ≡ Greater) ops i (λ k d low high. above k d high (eq-or-lt_of_le low));
  }
    where
      at_edge : (d : Op) → i < length ops → op_cmp (get_or ops i d) op ≡ Greater
      at_edge d lt = not-less op (get_or ops i d) (edge.stops d lt) (other d lt)

      above : (k : ℕ) (d : Op) → k < length ops → (i ≡ k) ⊎ (i < k) → op_cmp (get_or ops k d) op ≡ Greater
      above k d high (inl q) = ap (λ n. op_cmp (get_or ops n d) op) (sym q) ∙ at_edge d (omega (arith, high, q))
      above k d high (inr l) = greater (get_or ops k d) op (op_total.trans op (get_or ops i d) (get_or ops k d) (lesser op (get_or ops i d) (at_edge d (omega (arith, high, l)))) (rising_less ops i k d rising l high))

  pub has-at : (x : Op) → i < length ops → x ≡ get_or ops i x → eq_by_cmp op_cmp x op ≡ has_op (from_rising ops) op
  has-at x lt is = by_cases (eq_by_cmp op_cmp x op)
      (λ e. e ∙ sym (has_op-from_rising ops op rising ∙ present_at ops op i lt (λ d. ap (λ (y : Op). op_cmp y op) (get_or_default ops i d x lt ∙ sym is) ∙ is_equal (op_cmp x op) e)))
      (λ e. e ∙ sym (has_op-from_rising ops op rising ∙ absent_from_gap ops op i (gap-at (λ d l. ap (λ (y : Op). eq_by_cmp op_cmp y op) (get_or_default ops i d x l ∙ sym is) ∙ e))))

  pub has-none : i ≡ length ops → false ≡ has_op (from_rising ops) op
  has-none end = sym (has_op-from_rising ops op rising ∙ absent_from_gap ops op i (gap-at (λ d l. absurd (omega (arith, l, end)))))

  pub gap-new : has_op (from_rising ops) op ≡ false → IsGap ops op i
  gap-new new = gap-at (λ d l. by_cases (eq_by_cmp op_cmp (get_or ops i d) op)
      (λ e. absurd (true≢false (sym (present_at ops op i l (λ f. ap (λ (y : Op). op_cmp y op) (get_or_default ops i f d l) ∙ is_equal (op_cmp (get_or ops i d) op) e)) ∙ sym (has_op-from_rising ops op rising) ∙ new)))
      (λ e. e))

-- ---- who bears a stamp

no_bearers : (s : Stamp) (ops : List Op) → bearing ops s ≡ [] → false ≡ is_borne ops s
unfolding is_borne
no_bearers s ops e =
    sym (by_cases (list_any (bears s) ops) (λ h. let r = any_some (bears s) ops h in absurd (subst (Among r.0) e (among-filter_from (bears s) ops r.0 r.1 r.2))) (λ h. h))

some_bearers : (s : Stamp) (ops : List Op) (first : Op) (rest : List Op) → bearing ops s ≡ first ∷ rest → true ≡ is_borne ops s
unfolding is_borne
some_bearers s ops first rest e =
    let r = among-filter (bears s) ops first (subst (Among first) (sym e) (inl refl)) in sym (some_any (bears s) ops first r.0 r.1)

module _ (s : Stamp) (ops : List Op) (rising : T (is_rising ops)) (i : ℕ) (edge : IsEdge (below s) ops i) where
  bearers-from : bearing ops s ≡ bearing (drop i ops) s
  bearers-from = ap (λ (os : List Op). bearing os s) (sym (take-append-drop i ops)) ∙ bearing-older s (take i ops) (drop i ops) (picked-all (below s) ops (below-first s ops rising) i edge)

  pub none-bears : i ≡ length ops → bearing ops s ≡ []
  none-bears end = bearers-from ∙ ap (λ (os : List Op). bearing os s) (drop_all i ops (omega (arith, end)))

  -- the first is not one of them
  pub other-bears : (x : Op) → i < length ops → x ≡ get_or ops i x → same (stamp_of x) s ≡ false → bearing ops s ≡ []
  other-bears x lt is other =
      let split : drop i ops ≡ x ∷ drop (i + 1) ops = drop_more ops i x lt ∙ ap (λ (y : Op). y ∷ drop (i + 1) ops) (sym is) in
      bearers-from ∙ ap (λ (os : List Op). bearing os s) split
      ∙ bearing-first s x (drop (i + 1) ops) (ordered_rising (x ∷ drop (i + 1) ops) (subst (λ (os : List Op). T (is_rising os)) split (rising-drop ops i rising))) (ap (below s) is ∙ edge.stops x lt) other

  -- the first is
  pub one-bears : (x : Op) → i < length ops → x ≡ get_or ops i x → same (stamp_of x) s ≡ true → bearing ops s ≡ x ∷ bearing (drop (i + 1) ops) s
  one-bears x lt is e =
      bearers-from ∙ ap (λ (os : List Op). bearing os s) (drop_more ops i x lt ∙ ap (λ (y : Op). y ∷ drop (i + 1) ops) (sym is)) ∙ filter-hit (bears s) x (drop (i + 1) ops) e

  none-sole : bearing ops s ≡ [] → None ≡ sole (bearing ops s)
  none-sole e = sym (ap sole e)

  pub none-clear : i ≡ length ops → None ≡ sole (bearing ops s)
  none-clear end = none-sole (none-bears end)

  pub other-clear : (x : Op) → i < length ops → x ≡ get_or ops i x → same (stamp_of x) s ≡ false → None ≡ sole (bearing ops s)
  other-clear x lt is other = none-sole (other-bears x lt is other)

  -- the one behind it is another bearer
  pub two-clear : (x y : Op) → i < length ops → x ≡ get_or ops i x → same (stamp_of x) s ≡ true → i + 1 < length ops → y ≡ get_or ops (i + 1) y → same (stamp_of y) s ≡ true → None ≡ sole (bearing ops s)
  two-clear x y lt is e more at f =
      sym (ap sole (one-bears x lt is e ∙ ap (λ (os : List Op). x ∷ os)
      (ap (λ (os : List Op). bearing os s) (drop_more ops (i + 1) y more ∙ ap (λ (z : Op). z ∷ drop (i + 1 + 1) ops) (sym at)) ∙ filter-hit (bears s) y (drop (i + 1 + 1) ops) f)))

  -- nothing stands behind it
  pub last-clear : (x : Op) → i < length ops → x ≡ get_or ops i x → same (stamp_of x) s ≡ true → i + 1 ≡ length ops → Some x ≡ sole (bearing ops s)
  last-clear x lt is e end = sym (ap sole (one-bears x lt is e ∙ ap (λ (os : List Op). x ∷ bearing os s) (drop_all (i + 1) ops (omega (arith, end)))))

  -- the one behind it bears another stamp
  pub one-clear : (x y : Op) → i < length ops → x ≡ get_or ops i x → same (stamp_of x) s ≡ true → i + 1 < length ops → y ≡ get_or ops (i + 1) y → same (stamp_of y) s ≡ false → Some x ≡ sole (bearing ops s)
  one-clear x y lt is e more at f =
      let split : drop (i + 1) ops ≡ y ∷ drop (i + 1 + 1) ops = drop_more ops (i + 1) y more ∙ ap (λ (z : Op). z ∷ drop (i + 1 + 1) ops) (sym at) in
      let less : op_cmp x y ≡ Less = ap (λ (z : Op). op_cmp z y) (is ∙ sym (get_or_default ops i y x lt)) ∙ ap (op_cmp (get_or ops i y)) at ∙ rising_less ops i (i + 1) y rising (omega arith) more in
      let late : before (stamp_of y) s ≡ false = ap (before (stamp_of y)) (sym (same-true (stamp_of x) s e)) ∙ stamp_not_before x y less in
      sym (ap sole (one-bears x lt is e ∙ ap (λ (os : List Op). x ∷ os)
      (ap (λ (os : List Op). bearing os s) split ∙ bearing-first s y (drop (i + 1 + 1) ops) (ordered_rising (y ∷ drop (i + 1 + 1) ops) (subst (λ (os : List Op). T (is_rising os)) split (rising-drop ops (i + 1) rising))) late f)))

  -- ---- whether one is borne

  pub none-borne : i ≡ length ops → false ≡ is_borne ops s
  none-borne end = no_bearers s ops (none-bears end)

  pub at-borne : (x : Op) → i < length ops → x ≡ get_or ops i x → same (stamp_of x) s ≡ is_borne ops s
  at-borne x lt is = by_cases (same (stamp_of x) s)
      (λ e. e ∙ some_bearers s ops x (bearing (drop (i + 1) ops) s) (one-bears x lt is e))
      (λ e. e ∙ no_bearers s ops (other-bears x lt is e))

-- what comes up to the i-th ends behind it
pub next-to : (ops : List Op) (i k : ℕ) (x : Op) → T (is_rising ops) → i < length ops → x ≡ get_or ops i x → IsEdge (up_to x) ops k → k ≡ i + 1
next-to ops i k x rising lt is edge = go (cases_lt (i + 1) k)
  where
    over : k ≤ i → ⊥
    over le = true≢false (sym (not_from_false (is_lt (op_cmp x (get_or ops i x))) (ap is_lt (ap (op_cmp x) (sym is) ∙ tied_itself op_total x))) ∙ stops-at (up_to x) ops (up_to-first x ops rising) k edge i x le lt)

    under : i + 1 < k → ⊥
    under l =
        let w = edge.within in
        let less : op_cmp x (get_or ops (i + 1) x) ≡ Less = ap (λ (y : Op). op_cmp y (get_or ops (i + 1) x)) is ∙ rising_less ops i (i + 1) x rising (omega arith) (omega (arith, w, l)) in
        true≢false (sym (picked-at (up_to x) ops (up_to-first x ops rising) k edge (i + 1) x l) ∙ ap not (ap is_lt less))

    last : (k ≡ i + 1) ⊎ (k < i + 1) → k ≡ i + 1
    last (inl q) = q
    last (inr l) = absurd (over (omega (arith, l)))

    go : (i + 1 < k) ⊎ (k ≤ i + 1) → k ≡ i + 1
    go (inl l) = absurd (under l)
    go (inr h) = last (eq-or-lt_of_le h)
