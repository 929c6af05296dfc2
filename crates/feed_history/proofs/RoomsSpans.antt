-- What a site's operations are from, and what they have between.
use Rattle.std.proofs.Common.{◌≡◌, ℕ, ◌+◌, ◌<◌, ◌≤◌, ◌⊎◌, Bool, true, false, cond, List, [], ◌∷◌, max, refl, sym, ap, subst, ◌∙◌, inl, inr, arith}
use Rattle.std.specs.Prelude.{◌==◌, ◌&&◌, ◌||◌, count_by, filter, nat_lt}
use Rattle.std.proofs.lemmas.Bool.{and_left, and_right, eq-eqb, eqb-true, false≢true, le-ltb, ltb-false, ltb-true, ne_eqb, or_cases, or_left, or_right}
use Rattle.std.proofs.lemmas.List.Sums.{sum_by-cons}
use Rattle.desk_ops.specs.declared.op.Op.{Op}
use Rattle.desk_ops.specs.declared.op.Op.TheVariants.{Insert, Delete, Set}
use Rattle.desk_ops.specs.declared.op.Stamp.{Stamp}
use Rattle.desk_ops.specs.Op.{stamp_of}
use Rattle.desk_ops.specs.OpSet.{OpSet, has_op, in_order}
use Rattle.desk_ops.specs.Order.{op_cmp}
use Rattle.desk_ops.specs.Lists.{Among}
use Rattle.desk_ops.specs.Held.{greatest_counter, is_borne_in}
use Rattle.std.specs.declared.cmp.Ordering.TheVariants.{Less}
use Rattle.desk_ops.proofs.Arrive.{ordered_filter}
use Rattle.desk_ops.proofs.Bearers.{borne_op, counter_not_above, op_borne}
use Rattle.desk_ops.proofs.Ends.{among_held, held_among}
use Rattle.desk_ops.proofs.Lists.{among-filter, among-filter_from, each-among}
use Rattle.desk_ops.proofs.Means.{IsOrdered, ordered}
use Rattle.desk_ops.proofs.Stamps.{by_cases}
use Rattle.feed_history.specs.declared.rooms_made.Made.{Made}
use Rattle.feed_history.specs.Rooms.{first_counter, has_gaps, is_by, is_delete, is_insert, is_nothing, is_set, line_of, made_by, made_of, sites_at_fault, sites_shown, stamp_by, times}
use Rattle.feed_history.specs.RoomsLaws.{HasLine, IsSpan}

-- ---- of operations in order

from_first : (ops : List Op) → IsOrdered ops → (op : Op) → Among op ops → first_counter ops ≤ (stamp_of op).counter
from_first [] up op m = absurd m
from_first (p ∷ ops) up op (inl e) = let c : (stamp_of p).counter ≡ (stamp_of op).counter = ap (λ o. (stamp_of o).counter) e in omega (arith, c)
from_first (p ∷ ops) up op (inr m) = counter_not_above p op (each-among (λ o. op_cmp p o ≡ Less) ops op up.0 m)

to_greatest : (ops : List Op) (op : Op) → Among op ops → (stamp_of op).counter ≤ greatest_counter ops
to_greatest [] op m = absurd m
to_greatest (p ∷ ops) op (inl e) = let c : (stamp_of p).counter ≡ (stamp_of op).counter = ap (λ o. (stamp_of o).counter) e in omega (arith, c)
to_greatest (p ∷ ops) op (inr m) = let h : (stamp_of op).counter ≤ greatest_counter ops = to_greatest ops op m in omega (arith, h)

abbrev Bears : List Op → ℕ → Type 0
Bears ops counter = (op : Op) × Among op ops × ((stamp_of op).counter ≡ counter)

first_borne : (ops : List Op) (op : Op) → Among op ops → Bears ops (first_counter ops)
first_borne [] op m = absurd m
first_borne (p ∷ ops) op m = (p, inl refl, refl)

later : (p : Op) (ops : List Op) (counter : ℕ) → Bears ops counter → Bears (p ∷ ops) counter
later p ops counter r = (r.0, inr r.1, r.2)

greatest_borne : (ops : List Op) (op : Op) → Among op ops → Bears ops (greatest_counter ops)
greatest_borne [] op m = absurd m
greatest_borne (p ∷ []) op m = (p, inl refl, omega arith)
greatest_borne (p ∷ q ∷ ops) op m = by_cases (nat_lt (stamp_of p).counter (greatest_counter (q ∷ ops)))
    (λ k. let l : (stamp_of p).counter < greatest_counter (q ∷ ops) = ltb-true (stamp_of p).counter (greatest_counter (q ∷ ops)) k in
    let r = later p (q ∷ ops) (greatest_counter (q ∷ ops)) (greatest_borne (q ∷ ops) q (inl refl)) in
    (r.0, r.1, let e : (stamp_of r.0).counter ≡ greatest_counter (q ∷ ops) = r.2 in omega (arith, e, l)))
    (λ k. let l : greatest_counter (q ∷ ops) ≤ (stamp_of p).counter = ltb-false (stamp_of p).counter (greatest_counter (q ∷ ops)) k in
    (p, inl refl, omega (arith, l)))

-- a counter between the least and the greatest that none has
abbrev Leaves : List Op → ℕ → Type 0
Leaves ops counter = (first_counter ops < counter) × (counter < greatest_counter ops) × (Bears ops counter → ⊥)

gap_left : (ops : List Op) → IsOrdered ops → has_gaps ops ≡ true → (counter : ℕ) × Leaves ops counter
gap_left [] up e = absurd (false≢true e)
gap_left (p ∷ []) up e =
    let none : nat_lt ((stamp_of p).counter + 1) 0 ≡ false = le-ltb ((stamp_of p).counter + 1) 0 (omega arith) in
    absurd (false≢true (sym (ap (λ b. b || false) none) ∙ e))
gap_left (p ∷ q ∷ ops) up e = go (gap_left (q ∷ ops) up.1) (or_cases (nat_lt ((stamp_of p).counter + 1) (stamp_of q).counter) (has_gaps (q ∷ ops)) e)
  where
    go : (has_gaps (q ∷ ops) ≡ true → (counter : ℕ) × Leaves (q ∷ ops) counter) → (nat_lt ((stamp_of p).counter + 1) (stamp_of q).counter ≡ true) ⊎ (has_gaps (q ∷ ops) ≡ true) → (counter : ℕ) × Leaves (p ∷ q ∷ ops) counter
    go more (inl k) =
        let l : (stamp_of p).counter + 1 < (stamp_of q).counter = ltb-true ((stamp_of p).counter + 1) (stamp_of q).counter k in
        let g : (stamp_of q).counter ≤ greatest_counter (q ∷ ops) = to_greatest (q ∷ ops) q (inl refl) in
        ((stamp_of p).counter + 1, (omega arith, omega (arith, l, g), none))
      where
        none : Bears (p ∷ q ∷ ops) ((stamp_of p).counter + 1) → ⊥
        none r = at r.0 r.1 r.2
          where
            at : (o : Op) → Among o (p ∷ q ∷ ops) → (stamp_of o).counter ≡ (stamp_of p).counter + 1 → ⊥
            at o (inl f) c = let s : (stamp_of p).counter ≡ (stamp_of o).counter = ap (λ x. (stamp_of x).counter) f in omega (arith, s, c)
            at o (inr m) c =
                let a : (stamp_of q).counter ≤ (stamp_of o).counter = from_first (q ∷ ops) up.1 o m in
                let b : (stamp_of p).counter + 1 < (stamp_of q).counter = ltb-true ((stamp_of p).counter + 1) (stamp_of q).counter k in
                omega (arith, a, b, c)
    go more (inr k) =
        let h = more k in
        let a : (stamp_of p).counter ≤ (stamp_of q).counter = counter_not_above p q up.0.0 in
        let b : (stamp_of q).counter < h.0 = h.1.0 in
        let c : h.0 < greatest_counter (q ∷ ops) = h.1.1 in
        (h.0, (omega (arith, a, b), omega (arith, c), none h.0 b h.1.2))
      where
        none : (n : ℕ) → (stamp_of q).counter < n → (Bears (q ∷ ops) n → ⊥) → Bears (p ∷ q ∷ ops) n → ⊥
        none n b rest r = at r.0 r.1 r.2
          where
            at : (o : Op) → Among o (p ∷ q ∷ ops) → (stamp_of o).counter ≡ n → ⊥
            at o (inl f) c =
                let s : (stamp_of p).counter ≡ (stamp_of o).counter = ap (λ x. (stamp_of x).counter) f in
                let a : (stamp_of p).counter ≤ (stamp_of q).counter = counter_not_above p q up.0.0 in
                omega (arith, s, c, a, b)
            at o (inr m) c = rest (o, m, c)

left_gap : (ops : List Op) → IsOrdered ops → (counter : ℕ) → Leaves ops counter → has_gaps ops ≡ true
left_gap [] up n h = absurd (omega (arith, h.1))
left_gap (p ∷ []) up n h = let a : (stamp_of p).counter < n = h.0 in let b : n < max (stamp_of p).counter 0 = h.1 in absurd (omega (arith, a, b))
left_gap (p ∷ q ∷ ops) up n h = by_cases (nat_lt ((stamp_of p).counter + 1) (stamp_of q).counter)
    (λ k. or_left (nat_lt ((stamp_of p).counter + 1) (stamp_of q).counter) (has_gaps (q ∷ ops)) k)
    (λ k.
    let a : (stamp_of q).counter ≤ (stamp_of p).counter + 1 = ltb-false ((stamp_of p).counter + 1) (stamp_of q).counter k in
    let b : (stamp_of p).counter < n = h.0 in
    let c : n < max (stamp_of p).counter (greatest_counter (q ∷ ops)) = h.1 in
    let ne : (stamp_of q).counter ≡ n → ⊥ = λ e. h.2 (q, inr (inl refl), e) in
    let d : (stamp_of q).counter < n = omega (arith, a, b, ne) in
    or_right (nat_lt ((stamp_of p).counter + 1) (stamp_of q).counter) (has_gaps (q ∷ ops))
    (left_gap (q ∷ ops) up.1 n (d, omega (arith, b, c), λ r. h.2 (later p (q ∷ ops) n r))))

-- ---- of a site of a set

abbrev By : OpSet → ℕ → List Op
By set site = filter (is_by site) (in_order set)

own : (set : OpSet) (site : ℕ) (op : Op) → has_op set op ≡ true → (stamp_of op).site ≡ site → Among op (By set site)
own set site op held e = among-filter_from (is_by site) (in_order set) op (among_held set op held) (eq-eqb (stamp_of op).site site e)

up_by : (set : OpSet) (site : ℕ) → IsOrdered (By set site)
up_by set site = ordered_filter (is_by site) (in_order set) (ordered set)

borne_from : (set : OpSet) (site counter : ℕ) → Bears (By set site) counter → is_borne_in set (stamp_by site counter) ≡ true
borne_from set site counter r =
    let q = among-filter (is_by site) (in_order set) r.0 r.1 in
    let at : (stamp_of r.0).site ≡ site = eqb-true (stamp_of r.0).site site q.1 in
    let is : stamp_of r.0 ≡ stamp_by site counter = λ i. record { counter = r.2 i; site = at i } in
    op_borne set (stamp_by site counter) (r.0, held_among set r.0 q.0, is)

from_borne : (set : OpSet) (site counter : ℕ) → is_borne_in set (stamp_by site counter) ≡ true → Bears (By set site) counter
from_borne set site counter e =
    let r = borne_op set (stamp_by site counter) e in
    (r.0, own set site r.0 r.1 (ap (λ (s : Stamp). s.site) r.2), ap (λ (s : Stamp). s.counter) r.2)

unborne : (set : OpSet) (site counter : ℕ) → (Bears (By set site) counter → ⊥) → is_borne_in set (stamp_by site counter) ≡ false
unborne set site counter none = by_cases (is_borne_in set (stamp_by site counter)) (λ k. absurd (none (from_borne set site counter k))) (λ k. k)

pub spans_are : (set : OpSet) (site : ℕ) → IsSpan set site
spans_are set site = record {
  within = λ op held e. (from_first (By set site) (up_by set site) op (own set site op held e), to_greatest (By set site) op (own set site op held e));
  borne = λ op held e. (
    borne_from set site (made_by set site).least (first_borne (By set site) op (own set site op held e)),
    borne_from set site (made_by set site).greatest (greatest_borne (By set site) op (own set site op held e)),
  );
  gaps = (
    λ g. let h = gap_left (By set site) (up_by set site) g in (h.0, h.1.0, h.1.1, unborne set site h.0 h.1.2),
    λ h. left_gap (By set site) (up_by set site) h.0 (h.1, h.2, λ r. false≢true (sym h.3 ∙ borne_from set site h.0 r)),
  );
}

-- ---- which sites have lines

kinds_not_nothing : (m : Made) → ((m.inserts == 0) ≡ false) ⊎ (((m.deletes == 0) ≡ false) ⊎ ((m.sets == 0) ≡ false)) → is_nothing m ≡ false
kinds_not_nothing m (inl e) = and_left (m.inserts == 0 && m.deletes == 0) (m.sets == 0) (and_left (m.inserts == 0) (m.deletes == 0) e)
kinds_not_nothing m (inr (inl e)) = and_left (m.inserts == 0 && m.deletes == 0) (m.sets == 0) (and_right (m.inserts == 0) (m.deletes == 0) e)
kinds_not_nothing m (inr (inr e)) = and_right (m.inserts == 0 && m.deletes == 0) (m.sets == 0) e

some_of : (kind : Op → Bool) (op : Op) (ops : List Op) → kind op ≡ true → (count_by kind (op ∷ ops) == 0) ≡ false
some_of kind op ops e =
    let one : cond {A = ℕ} (kind op) 1 0 ≡ 1 = ap (λ b. cond {A = ℕ} b 1 0) e in
    ne_eqb (count_by kind (op ∷ ops)) 0 (λ z. omega (arith, one, z, sum_by-cons (λ o. cond (kind o) 1 0) op ops))

not_nothing : (op : Op) (ops : List Op) → is_nothing (made_of (op ∷ ops)) ≡ false
not_nothing (Insert stamp parent symbol) ops = kinds_not_nothing (made_of (Insert stamp parent symbol ∷ ops)) (inl (some_of is_insert (Insert stamp parent symbol) ops refl))
not_nothing (Delete stamp target) ops = kinds_not_nothing (made_of (Delete stamp target ∷ ops)) (inr (inl (some_of is_delete (Delete stamp target) ops refl)))
not_nothing (Set stamp key value) ops = kinds_not_nothing (made_of (Set stamp key value ∷ ops)) (inr (inr (some_of is_set (Set stamp key value) ops refl)))

some_not_nothing : (ops : List Op) (op : Op) → Among op ops → is_nothing (made_of ops) ≡ false
some_not_nothing [] op m = absurd m
some_not_nothing (p ∷ ops) op m = not_nothing p ops

none_by : (set : OpSet) (site : ℕ) (list : List Op) → By set site ≡ list → ((op : Op) → has_op set op ≡ true → (stamp_of op).site ≡ site → ⊥) → By set site ≡ []
none_by set site [] e none = e
none_by set site (op ∷ ops) e none =
    let q = among-filter (is_by site) (in_order set) op (subst (Among op) (sym e) (inl refl)) in
    absurd (none op (held_among set op q.0) (eqb-true (stamp_of op).site site q.1))

pub lines_are : (set : OpSet) (site : ℕ) → HasLine set site
lines_are set site = record {
  none = λ none. ap (λ ops. line_of site (made_of ops) (times site (sites_shown set)) (times site (sites_at_fault set))) (none_by set site (By set site) refl none);
  some = λ op held e. some_not_nothing (By set site) op (own set site op held e);
}
