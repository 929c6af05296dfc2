-- The corrections of a set: each operation is in one, and no two can be joined.
use Rattle.std.proofs.Common.{◌≡◌, ℕ, zero, suc, ◌+◌, ◌-◌, ◌<◌, ◌≤◌, Bool, true, false, not, List, [], ◌∷◌, ◌++◌, map, refl, sym, ap, ◌∙◌, subst, ◌⊎◌, inl, inr, arith}
use Rattle.std.specs.Prelude.{◌↔◌, nat_lt}
use Rattle.std.proofs.lemmas.Bool.{true≢false, not-true}
use Rattle.std.proofs.lemmas.Bool.Decides.{nat_tests}
use Rattle.std.proofs.Math.Nat.{eq-or-lt_of_le}
use Rattle.std.specs.declared.cmp.Ordering.TheVariants.{Less}
use Rattle.desk_ops.specs.declared.op.Stamp.{Stamp}
use Rattle.desk_ops.specs.declared.op.Op.{Op}
use Rattle.desk_ops.specs.Stamp.{before, same}
use Rattle.desk_ops.specs.Op.{stamp_of}
use Rattle.desk_ops.specs.Order.{op_cmp}
use Rattle.desk_ops.specs.OpSet.{OpSet, has_op, in_order}
use Rattle.desk_ops.specs.Held.{greatest_counter_of, is_borne, is_borne_in}
use Rattle.desk_ops.specs.Faults.{stamps}
use Rattle.desk_ops.specs.Lists.{Among, Precedes}
use Rattle.desk_ops.proofs.Bearers.{above_unborne, borne_op, op_borne, stamp_not_before}
use Rattle.desk_ops.proofs.Ends.{among_held, held_among}
use Rattle.desk_ops.proofs.Faulty.{among-stamps, among-stamps_from}
use Rattle.desk_ops.proofs.Lists.{among-filter, among-filter_from, each-among, precedes-filter}
use Rattle.desk_ops.proofs.Means.{IsOrdered, ordered}
use Rattle.desk_ops.proofs.Stamps.{before-other, by_cases, same-from, same-true}
use Rattle.feed_history.specs.declared.corrections.Correction.{Correction}
use Rattle.feed_history.specs.Rows.{at, bearing_by, row_from}
use Rattle.feed_history.specs.Corrections.{correction_to, ends, first_to, is_end}
use Rattle.feed_history.specs.CorrectionLaws.{Bears, CorrectionsPartASet, IsCorrection, IsIn, IsLongestRow}

-- ---- what is in a row

among_append : {X : Type 0} (xs ys : List X) (x : X) → Among x (xs ++ ys) → Among x xs ⊎ Among x ys
among_append [] ys x m = inr m
among_append (z ∷ xs) ys x (inl e) = inl (inl e)
among_append (z ∷ xs) ys x (inr m) = elim (among_append xs ys x m) [ inl k ↦ inl (inr k) | inr k ↦ inr k ]

append_left : {X : Type 0} (xs ys : List X) (x : X) → Among x xs → Among x (xs ++ ys)
append_left [] ys x m = absurd m
append_left (z ∷ xs) ys x (inl e) = inl e
append_left (z ∷ xs) ys x (inr m) = inr (append_left xs ys x m)

append_right : {X : Type 0} (xs ys : List X) (x : X) → Among x ys → Among x (xs ++ ys)
append_right [] ys x m = m
append_right (z ∷ xs) ys x m = inr (append_right xs ys x m)

-- an operation bears one of so many counters of a site, from one on
record IsFrom (op : Op) (site counter n : ℕ) : Type 0 where
  is : (stamp_of op).site ≡ site
  from : counter ≤ (stamp_of op).counter
  until : (stamp_of op).counter < counter + n

in_row : (ops : List Op) (site counter n : ℕ) (op : Op) → Among op (row_from stamp_of ops site counter n) → Among op ops × IsFrom op site counter n
in_row ops site counter zero op m = absurd m
in_row ops site counter (suc n) op m = go (in_row ops site (counter + 1) n op) (among_append (bearing_by stamp_of ops (at site counter)) (row_from stamp_of ops site (counter + 1) n) op m)
  where
    go : (Among op (row_from stamp_of ops site (counter + 1) n) → Among op ops × IsFrom op site (counter + 1) n) → Among op (bearing_by stamp_of ops (at site counter)) ⊎ Among op (row_from stamp_of ops site (counter + 1) n)
        → Among op ops × IsFrom op site counter (suc n)
    go later (inl k) =
        let q = among-filter (λ o. same (stamp_of o) (at site counter)) ops op k in
        let e : stamp_of op ≡ at site counter = same-true (stamp_of op) (at site counter) q.1 in
        let c : (stamp_of op).counter ≡ counter = ap (λ (s : Stamp). s.counter) e in
        (q.0, record { is = ap (λ (s : Stamp). s.site) e; from = omega (arith, c); until = omega (arith, c) })
    go later (inr k) =
        let q = later k in
        (q.0, record { is = q.1.is; from = omega (arith, q.1.from); until = omega (arith, q.1.until) })

stamp_is : (s : Stamp) (site counter : ℕ) → s.site ≡ site → s.counter ≡ counter → s ≡ at site counter
stamp_is s site counter a b i = record { counter = b i; site = a i }

row_has : (ops : List Op) (site counter n : ℕ) (op : Op) → Among op ops → IsFrom op site counter n → Among op (row_from stamp_of ops site counter n)
row_has ops site counter zero op m f = absurd (omega (arith, f.from, f.until))
row_has ops site counter (suc n) op m f = go (row_has ops site (counter + 1) n op m) (eq-or-lt_of_le f.from)
  where
    go : (IsFrom op site (counter + 1) n → Among op (row_from stamp_of ops site (counter + 1) n)) → (counter ≡ (stamp_of op).counter) ⊎ (counter < (stamp_of op).counter) → Among op (row_from stamp_of ops site counter (suc n))
    go later (inl e) = append_left (bearing_by stamp_of ops (at site counter)) (row_from stamp_of ops site (counter + 1) n) op
        (among-filter_from (λ o. same (stamp_of o) (at site counter)) ops op m (same-from (stamp_of op) (at site counter) (stamp_is (stamp_of op) site counter f.is (sym e))))
    go later (inr less) = append_right (bearing_by stamp_of ops (at site counter)) (row_from stamp_of ops site (counter + 1) n) op
        (later (record { is = f.is; from = omega (arith, less); until = omega (arith, f.until) }))

whole : (h : OpSet) (op : Op) (c : Correction) → IsIn h op c ↔ ((has_op h op ≡ true) × Bears op c)
whole h op c = (
  λ m.
      let q = in_row (in_order h) c.site c.first (c.last + 1 - c.first) op m in
      let a : c.first ≤ (stamp_of op).counter = q.1.from in
      let b : (stamp_of op).counter < c.first + (c.last + 1 - c.first) = q.1.until in
      (held_among h op q.0, record { site = q.1.is; first = a; last = omega (arith, a, b) }),
  λ k.
      let a : c.first ≤ (stamp_of op).counter = k.1.first in
      let b : (stamp_of op).counter ≤ c.last = k.1.last in
      row_has (in_order h) c.site c.first (c.last + 1 - c.first) op (among_held h op k.0) (record { is = k.1.site; from = a; until = omega (arith, a, b) }),
)

-- ---- where rows begin

module _ (ops : List Op) (site : ℕ) where
  abbrev borne : ℕ → Bool
  borne n = is_borne ops (at site n)

  first_on : (n : ℕ) → borne n ≡ true → first_to ops site (suc n) ≡ first_to ops site n
  first_on n e = rw e refl

  first_off : (n : ℕ) → borne n ≡ false → first_to ops site (suc n) ≡ suc n
  first_off n e = rw e refl

  first_within : (n : ℕ) → first_to ops site n ≤ n
  first_within zero = omega arith
  first_within (suc n) = by_cases (borne n)
      (λ e. let i : first_to ops site (suc n) ≡ first_to ops site n = first_on n e in omega (arith, i, first_within n))
      (λ e. let i : first_to ops site (suc n) ≡ suc n = first_off n e in omega (arith, i))

  first_follow : (n k : ℕ) → first_to ops site n ≤ k → k < n → borne k ≡ true
  first_follow zero k low high = absurd (omega (arith, high))
  first_follow (suc n) k low high = by_cases (borne n)
      (λ e.
      let i : first_to ops site (suc n) ≡ first_to ops site n = first_on n e in
      let le : k ≤ n = omega (arith, high) in
      elim (eq-or-lt_of_le le) [ inl is ↦ ap borne is ∙ e | inr less ↦ first_follow n k (omega (arith, i, low)) less ])
      (λ e. let i : first_to ops site (suc n) ≡ suc n = first_off n e in absurd (omega (arith, i, low, high)))

  first_begins : (n k : ℕ) → k + 1 ≡ first_to ops site n → borne k ≡ false
  first_begins zero k is = absurd (omega (arith, is))
  first_begins (suc n) k is = by_cases (borne n)
      (λ e. first_begins n k (is ∙ first_on n e))
      (λ e. let i : k + 1 ≡ suc n = is ∙ first_off n e in let same : k ≡ n = omega (arith, i) in ap borne same ∙ e)

  -- no row begins behind a counter from which on all are borne
  first_least : (n m : ℕ) → m ≤ n → ((k : ℕ) → m ≤ k → k < n → borne k ≡ true) → first_to ops site n ≤ m
  first_least zero m le all = omega arith
  first_least (suc n) m le all = elim (eq-or-lt_of_le le) [
    | inl e ↦ omega (arith, e, first_within (suc n))
    | inr less ↦ let i : first_to ops site (suc n) ≡ first_to ops site n = first_on n (all n (omega (arith, less)) (omega arith)) in
        let rest : first_to ops site n ≤ m = first_least n m (omega (arith, less)) (λ k low high. all k low (omega (arith, high))) in omega (arith, i, rest)
  ]

-- ---- where they end

record Last (h : OpSet) (site n last : ℕ) : Type 0 where
  from : n ≤ last
  follow : (k : ℕ) → n ≤ k → k ≤ last → is_borne_in h (at site k) ≡ true
  ends : is_borne_in h (at site (last + 1)) ≡ false

last_of : (h : OpSet) (site fuel n : ℕ) → is_borne_in h (at site n) ≡ true → greatest_counter_of h < n + fuel → (last : ℕ) × Last h site n last
last_of h site zero n here few = absurd (true≢false (sym here ∙ above_unborne h (at site n) (omega (arith, few))))
last_of h site (suc fuel) n here few = by_cases (is_borne_in h (at site (n + 1)))
    (λ e.
    let r = last_of h site fuel (n + 1) e (omega (arith, few)) in (
      r.0,
      record {
        from = omega (arith, r.1.from);
        follow = λ k low high. elim (eq-or-lt_of_le low) [ inl is ↦ ap (λ m. is_borne_in h (at site m)) (sym is) ∙ here | inr less ↦ r.1.follow k (omega (arith, less)) high ];
        ends = r.1.ends;
      },
    ))
    (λ e. (
      n,
      record {
        from = omega arith;
        follow = λ k low high. let is : n ≡ k = omega (arith, low, high) in ap (λ m. is_borne_in h (at site m)) (sym is) ∙ here;
        ends = e;
      },
    ))

-- ---- the corrections

pub among_map : {A B : Type 0} (f : A → B) (xs : List A) (y : B) → Among y (map f xs) → (x : A) × Among x xs × (f x ≡ y)
among_map f [] y m = absurd m
among_map f (x ∷ xs) y (inl e) = (x, inl refl, e)
among_map f (x ∷ xs) y (inr m) = let r = among_map f xs y m in (r.0, inr r.1, r.2)

among_map_from : {A B : Type 0} (f : A → B) (xs : List A) (x : A) → Among x xs → Among (f x) (map f xs)
among_map_from f [] x m = absurd m
among_map_from f (z ∷ xs) x (inl e) = inl (ap f e)
among_map_from f (z ∷ xs) x (inr m) = inr (among_map_from f xs x m)

-- a stamp that is borne, and whose site made none of the next counter
record IsEnd (h : OpSet) (s : Stamp) : Type 0 where
  borne : is_borne_in h s ≡ true
  ends : is_borne_in h (at s.site (s.counter + 1)) ≡ false

end_from : (h : OpSet) (s : Stamp) → Among s (ends (in_order h)) → IsEnd h s
end_from h s m =
    let q = among-filter (is_end (in_order h)) (stamps (in_order h)) s m in
    let o = among-stamps (in_order h) s q.0 in
    record { borne = op_borne h s (o.0, held_among h o.0 o.1, o.2); ends = not-true (is_borne_in h (at s.site (s.counter + 1))) q.1 }

end_among : (h : OpSet) (s : Stamp) → IsEnd h s → Among s (ends (in_order h))
end_among h s end =
    let o = borne_op h s end.borne in
    among-filter_from (is_end (in_order h)) (stamps (in_order h)) s (subst (λ t. Among t (stamps (in_order h))) o.2 (among-stamps_from (in_order h) o.0 (among_held h o.0 o.1))) (ap not end.ends)

held : (h : OpSet) (op : Op) → has_op h op ≡ true → (c : Correction) × IsCorrection h c × IsIn h op c
held h op has =
    let s : Stamp = stamp_of op in
    let r = last_of h s.site (greatest_counter_of h + 1) s.counter (op_borne h s (op, has, refl)) (omega arith) in
    let last : ℕ = r.0 in
    let end : Stamp = at s.site last in
    let m : Among end (ends (in_order h)) = end_among h end (record { borne = r.1.follow last r.1.from (omega arith); ends = r.1.ends }) in
    let first : first_to (in_order h) s.site last ≤ s.counter = first_least (in_order h) s.site last s.counter r.1.from (λ k low high. r.1.follow k low (omega (arith, high))) in
    (correction_to (in_order h) end, among_map_from (correction_to (in_order h)) (ends (in_order h)) end m, (whole h op (correction_to (in_order h) end)).1 (has, record { site = refl; first = first; last = r.1.from }))

longest_row : (h : OpSet) (s : Stamp) → IsEnd h s → IsLongestRow h (correction_to (in_order h) s)
longest_row h s end = record {
  follow = λ n low high. elim (eq-or-lt_of_le high) [ inl e ↦ ap (λ m. is_borne_in h (at s.site m)) e ∙ end.borne | inr less ↦ first_follow (in_order h) s.site s.counter n low less ];
  begins = λ n is. first_begins (in_order h) s.site s.counter n is;
  ends = end.ends;
}

longest : (h : OpSet) (c : Correction) → IsCorrection h c → IsLongestRow h c
longest h c m = let r = among_map (correction_to (in_order h)) (ends (in_order h)) c m in subst (IsLongestRow h) r.2 (longest_row h r.0 (end_from h r.0 r.1))

-- of two that share a counter of a site none ends before the other
not_before : (h : OpSet) (c d : Correction) (n : ℕ) → IsLongestRow h c → IsLongestRow h d → c.site ≡ d.site → n ≤ c.last → d.first ≤ n → c.last < d.last → ⊥
not_before h c d n one other site in_one in_other less =
    true≢false (sym (other.follow (c.last + 1) (omega (arith, in_one, in_other)) (omega (arith, less))) ∙ ap (λ k. is_borne_in h (at k (c.last + 1))) (sym site) ∙ one.ends)

alone : (h : OpSet) (op : Op) (c d : Correction) → IsCorrection h c → IsCorrection h d → IsIn h op c → IsIn h op d → c ≡ d
alone h op c d mc md ic id =
    let a = ((whole h op c).0 ic).1 in
    let b = ((whole h op d).0 id).1 in
    let site : c.site ≡ d.site = sym a.site ∙ b.site in
    let last : c.last ≡ d.last = by_cases (nat_lt c.last d.last)
    (λ e. let less : c.last < d.last = grind (arith, nat_tests) in absurd (not_before h c d (stamp_of op).counter (longest h c mc) (longest h d md) site a.last b.first less))
    (λ e. let most : d.last ≤ c.last = grind (arith, nat_tests) in elim (eq-or-lt_of_le most) [ inl k ↦ sym k | inr less ↦ absurd (not_before h d c (stamp_of op).counter (longest h d md) (longest h c mc) (sym site) b.last a.first less) ])
    in
    let r = among_map (correction_to (in_order h)) (ends (in_order h)) c mc in
    let q = among_map (correction_to (in_order h)) (ends (in_order h)) d md in
    let sites : r.0.site ≡ q.0.site = ap (λ (k : Correction). k.site) r.2 ∙ site ∙ sym (ap (λ (k : Correction). k.site) q.2) in
    let lasts : r.0.counter ≡ q.0.counter = ap (λ (k : Correction). k.last) r.2 ∙ last ∙ sym (ap (λ (k : Correction). k.last) q.2) in
    sym r.2 ∙ ap (correction_to (in_order h)) (stamp_is r.0 q.0.site q.0.counter sites lasts) ∙ q.2

-- ---- the newest last

stamps_rise : (ops : List Op) → IsOrdered ops → (s t : Stamp) → Precedes s t (stamps ops) → before s t ≡ true
stamps_rise [] up s t m = absurd m
stamps_rise (o ∷ ops) up s t (inr m) = stamps_rise ops up.1 s t (precedes-filter (λ r. not (same r (stamp_of o))) (stamps ops) s t m)
stamps_rise (o ∷ ops) up s t (inl h) =
    let q = among-filter (λ r. not (same r (stamp_of o))) (stamps ops) t h.1 in
    let p = among-stamps ops t q.0 in
    let late : before t (stamp_of o) ≡ false = subst (λ u. before u (stamp_of o) ≡ false) p.2 (stamp_not_before o p.0 (each-among (λ p. op_cmp o p ≡ Less) ops p.0 up.0 p.1)) in
    subst (λ u. before u t ≡ true) h.0 (before-other t (stamp_of o) late (not-true (same t (stamp_of o)) q.1))

pub parts : (h : OpSet) → CorrectionsPartASet h
parts h = record {
  held = held h;
  alone = alone h;
  whole = whole h;
  longest = longest h;
  newest_last = λ s t m. stamps_rise (in_order h) (ordered h) s t (precedes-filter (is_end (in_order h)) (stamps (in_order h)) s t m);
}
