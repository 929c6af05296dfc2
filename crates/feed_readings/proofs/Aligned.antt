-- Cuts are the same elements in all four lists, and those of sets stand in one order.
use Rattle.std.proofs.Common.{◌≡◌, ◌∙◌, ℕ, zero, suc, ◌+◌, ◌<◌, ◌≤◌, Bool, true, false, ◌&&◌, ◌||◌, cond, List, [], ◌∷◌, map, refl, sym, ap, subst, inl, inr, ◌⊎◌, arith, ⊎_elim}
use Rattle.std.specs.Prelude.{Option, Some, None}
use Rattle.std.proofs.lemmas.Bool.{true≢false, cases_lt}
use Rattle.desk_ops.specs.declared.op.Stamp.{Stamp}
use Rattle.desk_ops.specs.Lists.{Among, Precedes}
use Rattle.desk_ops.specs.Op.{Insertion}
use Rattle.desk_ops.specs.OpSet.{OpSet, AllLawful, IsWithin, has_op, in_order, no_ops, union}
use Rattle.desk_ops.specs.Op.{IsLawful}
use Rattle.desk_ops.specs.Shown.{shown_of}
use Rattle.desk_ops.specs.Stamp.{same}
use Rattle.desk_ops.proofs.Lists.{each-filter, precedes-first, precedes-second}
use Rattle.desk_ops.proofs.OpSets.{none-lawful}
use Rattle.desk_ops.proofs.Stamps.{same-refl, same-true}
use Rattle.desk_ops.proofs.Unions.{has_op-union}
use Rattle.desk_held.proofs.Lacking.{lawful_all}
use Rattle.desk_replica.specs.Orders.{KeepsOrder, shown_stamps}
use Rattle.desk_replica.proofs.Orders.{kept, not_both, one_order_of_sets}
use Rattle.feed_readings.specs.declared.reading.Point.{Point}
use Rattle.feed_readings.specs.declared.reading.Shown.{Shown}
use Rattle.feed_readings.specs.Aligned.{ComesBefore, CutsAreShared, CutsRise, IsShared, StandsAt, cuts_of_sets}
use Rattle.feed_readings.specs.Cuts.{cut_of, cuts_from, is_white, is_white_at, place_from, place_of, point_of, with_cut}
use Rattle.feed_readings.specs.Merged.{common_ops, in_common, inserted, shown_list}
use Rattle.feed_readings.proofs.Sets.{has_common}
use Rattle.feed_readings.proofs.Walked.{cut_stands, parts}

-- ---- what is found stands there

abbrev FoundAt : ℕ → List Shown → Stamp → ℕ → Type 0
FoundAt n list s p = (k : ℕ) × (p ≡ n + k) × StandsAt list k s

found_at : (n : ℕ) (list : List Shown) (s : Stamp) (p : ℕ) → place_from n list s ≡ Some p → FoundAt n list s p
found_at n [] s p e = cc
found_at n (x ∷ xs) s p e = by (found_at (n + 1) xs s p) (is_white_at s x) refl e
  where
    by : (place_from (n + 1) xs s ≡ Some p → FoundAt (n + 1) xs s p) → (b : Bool) → is_white_at s x ≡ b → cond b (Some n) (place_from (n + 1) xs s) ≡ Some p → FoundAt n (x ∷ xs) s p
    by deeper true is h = let same : n ≡ p = cc in (0, omega arith, is)
    by deeper false is h = let r = deeper h in (suc r.0, omega (arith, r.1), r.2)

found : (list : List Shown) (s : Stamp) (p : ℕ) → place_of list s ≡ Some p → StandsAt list p s
found list s p e = let r = found_at 0 list s p e in let same : r.0 ≡ p = omega (arith, r.1) in subst (λ (k : ℕ). StandsAt list k s) same r.2

-- ---- cuts are shared

-- a cut among elements from place n on, of which the fourth list has it at its place
record IsCutFrom (base one other : List Shown) (n : ℕ) (list : List Shown) (cut : Point) : Type 0 where
  stamp : Stamp
  in_base : StandsAt base cut.base stamp
  in_one : StandsAt one cut.one stamp
  in_other : StandsAt other cut.other stamp
  later : ℕ
  place : cut.both ≡ n + later
  in_list : StandsAt list later stamp

here : (base one other : List Shown) (n : ℕ) (x : Shown) (xs : List Shown) (cut : Point) → cut_of base one other n x ≡ Some cut → IsCutFrom base one other n (x ∷ xs) cut
here base one other n x xs cut e = by (is_white x.symbol) refl e
  where
    by : (b : Bool) → is_white x.symbol ≡ b → cond b (point_of (place_of base x.stamp) (place_of one x.stamp) (place_of other x.stamp) n) None ≡ Some cut → IsCutFrom base one other n (x ∷ xs) cut
    by false white h = cc
    by true white h =
        let p = parts (place_of base x.stamp) (place_of one x.stamp) (place_of other x.stamp) n cut h in
        record {
          stamp = x.stamp;
          in_base = found base x.stamp cut.base p.of_base;
          in_one = found one x.stamp cut.one p.of_one;
          in_other = found other x.stamp cut.other p.of_other;
          later = 0;
          place = omega (arith, p.of_both);
          in_list = ap (λ (b : Bool). b && same x.stamp x.stamp) white ∙ same-refl x.stamp;
        }

there : (base one other : List Shown) (n : ℕ) (x : Shown) (xs : List Shown) (cut : Point) → IsCutFrom base one other (n + 1) xs cut → IsCutFrom base one other n (x ∷ xs) cut
there base one other n x xs cut c = record { stamp = c.stamp; in_base = c.in_base; in_one = c.in_one; in_other = c.in_other; later = suc c.later; place = omega (arith, c.place); in_list = c.in_list }

cut_from : (base one other : List Shown) (n : ℕ) (list : List Shown) (cut : Point) → Among cut (cuts_from base one other n list) → IsCutFrom base one other n list cut
cut_from base one other n [] cut m = absurd m
cut_from base one other n (x ∷ xs) cut m = by (cut_from base one other (n + 1) xs cut) (cut_of base one other n x) refl m
  where
    by : (Among cut (cuts_from base one other (n + 1) xs) → IsCutFrom base one other (n + 1) xs cut) → (o : Option Point) → cut_of base one other n x ≡ o
        → Among cut (with_cut o (cuts_from base one other (n + 1) xs)) → IsCutFrom base one other n (x ∷ xs) cut
    by deeper None e m = there base one other n x xs cut (deeper m)
    by deeper (Some c) e (inl same) = here base one other n x xs cut (e ∙ ap (λ (p : Point). Some p) same)
    by deeper (Some c) e (inr m) = there base one other n x xs cut (deeper m)

pub shared : CutsAreShared
shared base one other both cut m =
    let c = cut_from base one other 0 both cut m in
    let same : c.later ≡ cut.both = omega (arith, c.place) in
    record { stamp = c.stamp; in_base = c.in_base; in_one = c.in_one; in_other = c.in_other; in_both = subst (λ (k : ℕ). StandsAt both k c.stamp) same c.in_list }

-- ---- they rise in the fourth

rise_from : (base one other : List Shown) (n : ℕ) (list : List Shown) (p q : Point) → Precedes p q (cuts_from base one other n list) → p.both < q.both
rise_from base one other n [] p q h = absurd h
rise_from base one other n (x ∷ xs) p q h = by (rise_from base one other (n + 1) xs p q) (cut_of base one other n x) refl h
  where
    by : (Precedes p q (cuts_from base one other (n + 1) xs) → p.both < q.both) → (o : Option Point) → cut_of base one other n x ≡ o → Precedes p q (with_cut o (cuts_from base one other (n + 1) xs)) → p.both < q.both
    by deeper None e h = deeper h
    by deeper (Some c) e (inl first) =
        let place : p.both ≡ n = (cut_stands base one other n x p (e ∙ ap (λ (p : Point). Some p) first.0)).place in
        let b = cut_from base one other (n + 1) xs q first.1 in
        omega (arith, place, b.place)
    by deeper (Some c) e (inr h) = deeper h

-- ---- places and order

abbrev stamps : List Shown → List Stamp
stamps list = map (λ (element : Shown). element.stamp) list

second_true : (a b : Bool) → (a && b) ≡ true → b ≡ true
second_true true b e = e
second_true false b e = absurd (true≢false (sym e))

its_stamp : (s : Stamp) (x : Shown) → is_white_at s x ≡ true → x.stamp ≡ s
its_stamp s x e = same-true x.stamp s (second_true (is_white x.symbol) (same x.stamp s) e)

stands_among : (list : List Shown) (k : ℕ) (s : Stamp) → StandsAt list k s → Among s (stamps list)
stands_among [] k s h = absurd h
stands_among (x ∷ xs) zero s h = inl (its_stamp s x h)
stands_among (x ∷ xs) (suc k) s h = inr (stands_among xs k s h)

stands_before : (list : List Shown) (i j : ℕ) (s t : Stamp) → i < j → StandsAt list i s → StandsAt list j t → Precedes s t (stamps list)
stands_before [] i j s t lt a b = absurd a
stands_before (x ∷ xs) zero zero s t lt a b = absurd (omega arith)
stands_before (x ∷ xs) zero (suc j) s t lt a b = inl (its_stamp s x a, stands_among xs j t b)
stands_before (x ∷ xs) (suc i) zero s t lt a b = absurd (omega arith)
stands_before (x ∷ xs) (suc i) (suc j) s t lt a b = inr (stands_before xs i j s t (omega arith) a b)

stands_once : (list : List Shown) (k : ℕ) (s t : Stamp) → StandsAt list k s → StandsAt list k t → s ≡ t
stands_once [] k s t a b = absurd a
stands_once (x ∷ xs) zero s t a b = sym (its_stamp s x a) ∙ its_stamp t x b
stands_once (x ∷ xs) (suc k) s t a b = stands_once xs k s t a b

stamps_map : (xs : List Insertion) → stamps (map inserted xs) ≡ map (λ (x : Insertion). x.stamp) xs
stamps_map [] = refl
stamps_map (x ∷ xs) = ap (λ (l : List Stamp). x.stamp ∷ l) (stamps_map xs)

stamps_shown : (h : OpSet) → stamps (shown_list h) ≡ shown_stamps h
stamps_shown h = stamps_map (shown_of h)

-- ---- one order

-- of two elements that both sets show, that which stands first in the one does so in the other
places_rise : (h g : OpSet) → AllLawful h → AllLawful g → KeepsOrder g h → (i j k l : ℕ) (s t : Stamp) → i < j → StandsAt (shown_list g) i s → StandsAt (shown_list g) j t
    → StandsAt (shown_list h) k s → StandsAt (shown_list h) l t → k < l
places_rise h g lawful whole keeps i j k l s t lt a b c d =
    ⊎_elim (λ (less : k < l). less) (λ (over : l ≤ k). absurd (never over (cases_lt l k))) (cases_lt k l)
  where
    first : Precedes s t (shown_stamps g)
    first = subst (Precedes s t) (stamps_shown g) (stands_before (shown_list g) i j s t lt a b)

    then : Precedes s t (shown_stamps h)
    then = keeps s t first (subst (Among s) (stamps_shown h) (stands_among (shown_list h) k s c)) (subst (Among t) (stamps_shown h) (stands_among (shown_list h) l t d))

    never : l ≤ k → (l < k) ⊎ (k ≤ l) → ⊥
    never over (inl less) = not_both h lawful s t then (subst (Precedes t s) (stamps_shown h) (stands_before (shown_list h) l k t s less d c))
    never over (inr under) =
        let at : k ≡ l = omega arith in
        let one : s ≡ t = stands_once (shown_list h) l s t (subst (λ (n : ℕ). StandsAt (shown_list h) n s) at c) d in
        not_both h lawful s t then (subst (λ (z : Stamp). Precedes t z (shown_stamps h)) (sym one) (subst (λ (z : Stamp). Precedes z t (shown_stamps h)) one then))

-- ---- the four sets

or_left : (a b : Bool) → a ≡ true → (a || b) ≡ true
or_left true b e = refl
or_left false b e = absurd (true≢false (sym e))

or_right : (a b : Bool) → b ≡ true → (a || b) ≡ true
or_right true b e = refl
or_right false b e = e

both_left : (a b : Bool) → (a && b) ≡ true → a ≡ true
both_left true b e = refl
both_left false b e = e

one_within : (one other : OpSet) → IsWithin one (union one other)
one_within one other op h = has_op-union one other op ∙ or_left (has_op one op) (has_op other op) h

other_within : (one other : OpSet) → IsWithin other (union one other)
other_within one other op h = has_op-union one other op ∙ or_right (has_op one op) (has_op other op) h

common_within_both : (one other : OpSet) → IsWithin (in_common one other) (union one other)
common_within_both one other op h = one_within one other op (both_left (has_op one op) (has_op other op) (sym (has_common one other op) ∙ h))

common_lawful : (one other : OpSet) → AllLawful one → AllLawful (in_common one other)
common_lawful one other h = lawful_all no_ops (common_ops other (in_order one)) none-lawful (each-filter IsLawful (has_op other) (in_order one) h)

-- what stands before another in both stands so in a part of it
part_rises : (part both : OpSet) → AllLawful part → AllLawful both → IsWithin part both → (i j k l : ℕ) (s t : Stamp) → i < j → StandsAt (shown_list both) i s → StandsAt (shown_list both) j t
    → StandsAt (shown_list part) k s → StandsAt (shown_list part) l t → k < l
part_rises part both lawful whole within = places_rise part both lawful whole (one_order_of_sets.back part both whole (kept part both lawful whole within))

pub rise : CutsRise
rise one other lawful lawful_other p q h =
    ordered
    (lawful_all one (in_order other) lawful lawful_other)
    (shared (shown_list (in_common one other)) (shown_list one) (shown_list other) (shown_list (union one other)) p (precedes-first (cuts_of_sets one other) p q h))
    (shared (shown_list (in_common one other)) (shown_list one) (shown_list other) (shown_list (union one other)) q (precedes-second (cuts_of_sets one other) p q h))
    (rise_from (shown_list (in_common one other)) (shown_list one) (shown_list other) 0 (shown_list (union one other)) p q h)
  where
    ordered : AllLawful (union one other) → IsShared (shown_list (in_common one other)) (shown_list one) (shown_list other) (shown_list (union one other)) p
        → IsShared (shown_list (in_common one other)) (shown_list one) (shown_list other) (shown_list (union one other)) q → p.both < q.both → ComesBefore p q
    ordered whole a b less = record {
      in_base = part_rises (in_common one other) (union one other) (common_lawful one other lawful) whole (common_within_both one other) p.both q.both p.base q.base a.stamp b.stamp less a.in_both b.in_both a.in_base b.in_base;
      in_one = part_rises one (union one other) lawful whole (one_within one other) p.both q.both p.one q.one a.stamp b.stamp less a.in_both b.in_both a.in_one b.in_one;
      in_other = part_rises other (union one other) lawful_other whole (other_within one other) p.both q.both p.other q.other a.stamp b.stamp less a.in_both b.in_both a.in_other b.in_other;
      in_both = less;
    }
