-- Who bears a stamp: in a set, and in a list of operations that rises.
use Rattle.std.proofs.Common.{◌≡◌, suc, ◌<◌, ◌≤◌, ◌-◌, length, get_or, max, true, false, ◌++◌, T, List, [], ◌∷◌, refl, sym, ap, ◌∙◌, subst, ◌⊎◌, inl, inr, Some, arith}
use Rattle.std.specs.Option.{is_some, unwrap_or}
use Rattle.std.specs.Prelude.{nat_le}
use Rattle.std.specs.Ordering.{nat_cmp, ordering_then, is_lt}
use Rattle.std.specs.Cmp.Lexicographic.{slice_cmp}
use Rattle.std.proofs.lemmas.Cmp.{tied_itself}
use Rattle.std.proofs.lemmas.Bool.Decides.{nat_tests}
use Rattle.std.proofs.lemmas.Bool.{true≢false}
use Rattle.std.specs.declared.cmp.Ordering.TheVariants.{Less}
use Rattle.desk_ops.specs.declared.op.Stamp.{Stamp}
use Rattle.desk_ops.specs.declared.op.Op.{Op}
use Rattle.desk_ops.specs.Stamp.{stamp_cmp, same, before}
use Rattle.desk_ops.specs.Op.{stamp_of}
use Rattle.desk_ops.specs.Order.{op_cmp, rest_of}
use Rattle.desk_ops.specs.OrderLaws.{op_total}
use Rattle.desk_ops.specs.OpSet.{OpSet, has_op, in_order, entries_of, is_rising}
use Rattle.desk_ops.specs.Lists.{Among}
use Rattle.desk_ops.specs.Held.{bears, bearing, is_one, is_more, sole, is_clear, is_forked, is_borne, is_clear_in, is_forked_in, is_borne_in, clear_op_in, greatest_counter, greatest_counter_of}
use Rattle.desk_ops.specs.Live.{IsClearOp}
use Rattle.desk_ops.proofs.Stamps.{same-true, same-from, before-apart, before-apart_left, before-other, before_true, is_less, by_cases}
use Rattle.desk_ops.proofs.Lists.{Each, each-among, each-from_among, among-filter, among-filter_from}
use Rattle.desk_ops.proofs.Tree.{filter-miss}
use Rattle.desk_ops.proofs.Means.{IsOrdered, ordered, ordered_entries, of-T, by_stamp, clear_one}
use Rattle.desk_ops.proofs.Arrive.{clear_from, ordered_filter}
use Rattle.desk_ops.proofs.Ends.{among_held, held_among}
use Rattle.desk_ops.proofs.Faulty.{none-some}
use Rattle.desk_ops.proofs.Deletes.{any_some, some_any}
use Rattle.desk_ops.proofs.OpSets.{keys-entries_of}
use Rattle.desk_ops.proofs.Joined.{more_from}

-- ---- the order

less_itself : (o : Op) → op_cmp o o ≡ Less → ⊥
less_itself o e = true≢false (sym (ap is_lt e) ∙ ap is_lt (tied_itself op_total o))

-- the later of two has no smaller stamp
pub stamp_not_before : (o p : Op) → op_cmp o p ≡ Less → before (stamp_of p) (stamp_of o) ≡ false
unfolding before
stamp_not_before o p l = by_cases (is_lt (stamp_cmp (stamp_of p) (stamp_of o)))
    (λ k. absurd (less_itself o (op_total.trans o p o l (by_stamp p o ∙ ap (λ r. ordering_then r (slice_cmp nat_cmp (rest_of p) (rest_of o))) (is_less (stamp_cmp (stamp_of p) (stamp_of o)) k)))))
    (λ k. k)

pub counter_not_above : (o p : Op) → op_cmp o p ≡ Less → (stamp_of o).counter ≤ (stamp_of p).counter
counter_not_above o p l = by_cases (nat_le (stamp_of o).counter (stamp_of p).counter)
    (λ k. grind (arith, nat_tests))
    (λ k. let a : (stamp_of p).counter < (stamp_of o).counter = grind (arith, nat_tests) in absurd (true≢false (sym (before_true (stamp_of p) (stamp_of o) (inl a)) ∙ stamp_not_before o p l)))

-- ---- borne

pub borne_op : (h : OpSet) (s : Stamp) → is_borne_in h s ≡ true → (o : Op) × (has_op h o ≡ true) × (stamp_of o ≡ s)
unfolding is_borne
borne_op h s e = let r = any_some (bears s) (in_order h) e in (r.0, held_among h r.0 r.1, same-true (stamp_of r.0) s r.2)

pub op_borne : (h : OpSet) (s : Stamp) → (o : Op) × (has_op h o ≡ true) × (stamp_of o ≡ s) → is_borne_in h s ≡ true
unfolding is_borne
op_borne h s r = some_any (bears s) (in_order h) r.0 (among_held h r.0 r.1) (same-from (stamp_of r.0) s r.2)

-- ---- clear

one_some : (os : List Op) → is_one os ≡ true → (o : Op) × Among o os
one_some [] e = absurd (true≢false (sym e))
one_some (o ∷ []) e = (o, inl refl)
one_some (o ∷ p ∷ os) e = absurd (true≢false (sym e))

abbrev IsSoleOf : OpSet → Stamp → Type 0
IsSoleOf h s = (o : Op) × (has_op h o ≡ true) × (stamp_of o ≡ s) × ((p : Op) → has_op h p ≡ true → stamp_of p ≡ s → p ≡ o)

pub clear_sole : (h : OpSet) (s : Stamp) → is_clear_in h s ≡ true → IsSoleOf h s
unfolding is_clear
clear_sole h s e = go (one_some (bearing (in_order h) s) e)
  where
    go : ((o : Op) × Among o (bearing (in_order h) s)) → IsSoleOf h s
    go r =
        let q = among-filter (bears s) (in_order h) r.0 r.1 in
        (r.0, held_among h r.0 q.0, same-true (stamp_of r.0) s q.1, λ p i b. clear_one (in_order h) s e p r.0 (among_held h p i) q.0 (same-from (stamp_of p) s b) q.1)

pub sole_clear : (h : OpSet) (s : Stamp) → IsSoleOf h s → is_clear_in h s ≡ true
sole_clear h s r = subst (λ t. is_clear (in_order h) t ≡ true) r.2 (clear_from (in_order h) (ordered h) r.0 (among_held h r.0 r.1) (λ p m k. r.3 p (held_among h p m) (same-true (stamp_of p) (stamp_of r.0) k ∙ r.2)))

some-inner : (o p : Op) → Some o ≡ Some p → o ≡ p
some-inner o p e = ap (λ r. unwrap_or r o) e

pub sole_op : (h : OpSet) (s : Stamp) (o : Op) → clear_op_in h s ≡ Some o → (stamp_of o ≡ s) × IsClearOp h o
unfolding is_clear
sole_op h s o e = go (bearing (in_order h) s) refl e
  where
    go : (os : List Op) → bearing (in_order h) s ≡ os → sole os ≡ Some o → (stamp_of o ≡ s) × IsClearOp h o
    go [] i e = none-some o e
    go (p ∷ []) i e =
        let m : Among o (bearing (in_order h) s) = subst (Among o) (sym i) (inl (some-inner p o e)) in
        let q = among-filter (bears s) (in_order h) o m in
        let b : stamp_of o ≡ s = same-true (stamp_of o) s q.1 in
        (b, (held_among h o q.0, subst (λ t. is_one (bearing (in_order h) t) ≡ true) (sym b) (ap is_one i)))
    go (p ∷ q ∷ os) i e = none-some o e

pub op_sole : (h : OpSet) (s : Stamp) (o : Op) → (stamp_of o ≡ s) × IsClearOp h o → clear_op_in h s ≡ Some o
unfolding is_clear
op_sole h s o r = go (bearing (in_order h) s) (subst (λ t. is_one (bearing (in_order h) t) ≡ true) r.0 r.1.1) (among-filter_from (bears s) (in_order h) o (among_held h o r.1.0) (same-from (stamp_of o) s r.0))
  where
    go : (os : List Op) → is_one os ≡ true → Among o os → sole os ≡ Some o
    go [] e m = absurd m
    go (p ∷ []) e (inl i) = ap Some i
    go (p ∷ []) e (inr m) = absurd m
    go (p ∷ q ∷ os) e m = absurd (true≢false (sym e))

-- clear is to have a sole bearer
pub is_some-sole : (ops : List Op) (s : Stamp) → is_some (sole (bearing ops s)) ≡ is_clear ops s
unfolding is_clear
is_some-sole ops s = go (bearing ops s)
  where
    go : (os : List Op) → is_some (sole os) ≡ is_one os
    go [] = refl
    go (o ∷ []) = refl
    go (o ∷ p ∷ os) = refl

-- ---- forked

abbrev AreTwoOf : OpSet → Stamp → Type 0
AreTwoOf h s = (o : Op) × (p : Op) × (has_op h o ≡ true) × (has_op h p ≡ true) × (stamp_of o ≡ s) × (stamp_of p ≡ s) × (o ≡ p → ⊥)

more_two : (os : List Op) → IsOrdered os → is_more os ≡ true → (o : Op) × (p : Op) × Among o os × Among p os × (op_cmp o p ≡ Less)
more_two [] up e = absurd (true≢false (sym e))
more_two (o ∷ []) up e = absurd (true≢false (sym e))
more_two (o ∷ p ∷ os) up e = (o, p, inl refl, inr (inl refl), up.0.0)

pub forked_two : (h : OpSet) (s : Stamp) → is_forked_in h s ≡ true → AreTwoOf h s
unfolding is_forked
forked_two h s e = go (more_two (bearing (in_order h) s) (ordered_filter (bears s) (in_order h) (ordered h)) e)
  where
    go : ((o : Op) × (p : Op) × Among o (bearing (in_order h) s) × Among p (bearing (in_order h) s) × (op_cmp o p ≡ Less)) → AreTwoOf h s
    go r =
        let q = among-filter (bears s) (in_order h) r.0 r.2 in
        let t = among-filter (bears s) (in_order h) r.1 r.3 in
        (r.0, r.1, held_among h r.0 q.0, held_among h r.1 t.0, same-true (stamp_of r.0) s q.1, same-true (stamp_of r.1) s t.1, λ e. less_itself r.1 (subst (λ o. op_cmp o r.1 ≡ Less) e r.4))

pub two_forked : (h : OpSet) (s : Stamp) → AreTwoOf h s → is_forked_in h s ≡ true
unfolding is_forked
two_forked h s r = more_from (bearing (in_order h) s) r.0 r.1
    (among-filter_from (bears s) (in_order h) r.0 (among_held h r.0 r.2) (same-from (stamp_of r.0) s r.4))
    (among-filter_from (bears s) (in_order h) r.1 (among_held h r.1 r.3) (same-from (stamp_of r.1) s r.5)) r.6

-- ---- the greatest counter

within_greatest : (os : List Op) (o : Op) → Among o os → (stamp_of o).counter ≤ greatest_counter os
within_greatest [] o m = absurd m
within_greatest (p ∷ os) o (inl e) = let c : (stamp_of p).counter ≡ (stamp_of o).counter = ap (λ q. (stamp_of q).counter) e in omega arith
within_greatest (p ∷ os) o (inr m) = let h : (stamp_of o).counter ≤ greatest_counter os = within_greatest os o m in omega arith

reached_greatest : (os : List Op) → (greatest_counter os ≡ 0) ⊎ ((o : Op) × Among o os × ((stamp_of o).counter ≡ greatest_counter os))
reached_greatest [] = inl refl
reached_greatest (p ∷ os) = by_cases (nat_le (greatest_counter os) (stamp_of p).counter)
    (λ k. let l : greatest_counter os ≤ (stamp_of p).counter = grind (arith, nat_tests) in inr (p, inl refl, omega arith))
    (λ k. let l : (stamp_of p).counter < greatest_counter os = grind (arith, nat_tests) in go l (reached_greatest os))
  where
    go : (stamp_of p).counter < greatest_counter os → (greatest_counter os ≡ 0) ⊎ ((o : Op) × Among o os × ((stamp_of o).counter ≡ greatest_counter os)) → (greatest_counter (p ∷ os) ≡ 0) ⊎ ((o : Op) × Among o (p ∷ os) × ((stamp_of o).counter ≡ greatest_counter (p ∷ os)))
    go l (inl e) = absurd (omega arith)
    go l (inr r) = let e : (stamp_of r.0).counter ≡ greatest_counter os = r.2 in inr (r.0, inr r.1, omega arith)

pub counter_within : (h : OpSet) (o : Op) → has_op h o ≡ true → (stamp_of o).counter ≤ greatest_counter_of h
counter_within h o e = within_greatest (in_order h) o (among_held h o e)

pub counter_reached : (h : OpSet) → (greatest_counter_of h ≡ 0) ⊎ ((o : Op) × (has_op h o ≡ true) × ((stamp_of o).counter ≡ greatest_counter_of h))
counter_reached h = go (reached_greatest (in_order h))
  where
    go : (greatest_counter (in_order h) ≡ 0) ⊎ ((o : Op) × Among o (in_order h) × ((stamp_of o).counter ≡ greatest_counter (in_order h))) → (greatest_counter_of h ≡ 0) ⊎ ((o : Op) × (has_op h o ≡ true) × ((stamp_of o).counter ≡ greatest_counter_of h))
    go (inl e) = inl e
    go (inr r) = inr (r.0, held_among h r.0 r.1, r.2)

-- a greater counter is borne by nothing
pub above_unborne : (h : OpSet) (s : Stamp) → greatest_counter_of h < s.counter → is_borne_in h s ≡ false
above_unborne h s l = by_cases (is_borne_in h s) (λ e. absurd (go (borne_op h s e))) (λ e. e)
  where
    go : ((o : Op) × (has_op h o ≡ true) × (stamp_of o ≡ s)) → ⊥
    go r = let w : (stamp_of r.0).counter ≤ greatest_counter_of h = counter_within h r.0 r.1 in let e : (stamp_of r.0).counter ≡ s.counter = ap (λ (t : Stamp). t.counter) r.2 in omega arith

-- ---- a list that rises

pub ordered_rising : (ops : List Op) → T (is_rising ops) → IsOrdered ops
ordered_rising ops rising = subst IsOrdered (keys-entries_of ops) (ordered_entries (entries_of ops) (of-T (is_rising ops) rising))

-- older than s none bears it
pub bearing-older : (s : Stamp) (ops rest : List Op) → Each (λ o. before (stamp_of o) s ≡ true) ops → bearing (ops ++ rest) s ≡ bearing rest s
bearing-older s [] rest h = refl
bearing-older s (o ∷ os) rest h = filter-miss (bears s) o (os ++ rest) (before-apart_left (stamp_of o) s h.0) ∙ bearing-older s os rest h.1

-- what follows a greater stamp
bearing-younger : (s : Stamp) (o : Op) (os : List Op) → IsOrdered (o ∷ os) → before s (stamp_of o) ≡ true → bearing (o ∷ os) s ≡ []
bearing-younger s o os up b = filter-miss (bears s) o os (before-apart s (stamp_of o) b) ∙ go os (each-from_among (λ p. same (stamp_of p) s ≡ false) os (λ p m. by_cases (same (stamp_of p) s) (λ k. absurd (true≢false (sym b ∙ not_before p m k))) (λ k. k)))
  where
    not_before : (p : Op) → Among p os → same (stamp_of p) s ≡ true → before s (stamp_of o) ≡ false
    not_before p m k = subst (λ t. before t (stamp_of o) ≡ false) (same-true (stamp_of p) s k) (stamp_not_before o p (each-among (λ p. op_cmp o p ≡ Less) os p up.0 m))

    go : (ps : List Op) → Each (λ p. same (stamp_of p) s ≡ false) ps → bearing ps s ≡ []
    go [] h = refl
    go (p ∷ ps) h = filter-miss (bears s) p ps h.0 ∙ go ps h.1

-- from the first that is not older on, those that bear s come first
pub bearing-first : (s : Stamp) (o : Op) (os : List Op) → IsOrdered (o ∷ os) → before (stamp_of o) s ≡ false → same (stamp_of o) s ≡ false → bearing (o ∷ os) s ≡ []
bearing-first s o os up b ne = bearing-younger s o os up (before-other (stamp_of o) s b ne)

-- the greatest counter is that of the last
pub greatest-last : (ops : List Op) (d : Op) → IsOrdered ops → 0 < length ops → greatest_counter ops ≡ (stamp_of (get_or ops (length ops - 1) d)).counter
greatest-last [] d up lt = absurd (omega arith)
greatest-last (o ∷ []) d up lt = omega arith
greatest-last (o ∷ p ∷ os) d up lt =
    let h : greatest_counter (p ∷ os) ≡ (stamp_of (get_or (p ∷ os) (length (p ∷ os) - 1) d)).counter = greatest-last (p ∷ os) d up.1 (omega arith) in
    let a : (stamp_of o).counter ≤ (stamp_of p).counter = counter_not_above o p up.0.0 in
    let b : (stamp_of p).counter ≤ greatest_counter (p ∷ os) = within_greatest (p ∷ os) p (inl refl) in
    let e : length (o ∷ p ∷ os) - 1 ≡ suc (length (p ∷ os) - 1) = omega arith in
    let c : max (stamp_of o).counter (greatest_counter (p ∷ os)) ≡ greatest_counter (p ∷ os) = omega arith in
    c ∙ h ∙ ap (λ n. (stamp_of (get_or (o ∷ p ∷ os) n d)).counter) (sym e)
