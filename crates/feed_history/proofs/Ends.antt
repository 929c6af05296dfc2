-- The last stamps of corrections, one operation more in front.
use Rattle.std.proofs.Common.{◌≡◌, ℕ, zero, suc, ◌+◌, ◌<◌, ◌≤◌, Bool, true, false, not, cond, ◌||◌, List, [], ◌∷◌, ◌++◌, length, get_or, drop, refl, sym, ap, ◌∙◌, subst, ◌⊎◌, inl, inr, arith}
use Rattle.std.specs.Prelude.{◌==◌, ◌≢◌, All, nat_lt, reverse}
use Rattle.std.specs.List.{filter, list_any}
use Rattle.std.proofs.lemmas.Bool.{true≢false}
use Rattle.std.proofs.lemmas.Bool.Decides.{nat_tests}
use Rattle.std.proofs.lemmas.List.{get_or-set_other, get_or-set_same, reverse-append}
use Rattle.std.proofs.Math.ListN.{set}
use Rattle.std.proofs.Math.Seq.{drop-cons}
use Rattle.std.proofs.Math.Bool.{or-true}
use Rattle.std.proofs.Math.Nat.{eq-or-lt_of_le}
use Rattle.desk_ops.specs.declared.op.Stamp.{Stamp}
use Rattle.desk_ops.specs.declared.op.Op.{Op}
use Rattle.desk_ops.specs.Stamp.{before, same}
use Rattle.desk_ops.specs.Op.{IsLawful, stamp_of}
use Rattle.desk_ops.specs.Held.{bears, is_borne}
use Rattle.desk_ops.specs.Faults.{stamps}
use Rattle.desk_ops.specs.Lists.{Among}
use Rattle.desk_ops.proofs.Faulty.{among-stamps}
use Rattle.desk_ops.proofs.Lawful.{lawful-stamp}
use Rattle.desk_ops.proofs.Lists.{among-filter}
use Rattle.desk_ops.proofs.Means.{counter-before}
use Rattle.desk_ops.proofs.Stamps.{before-other, by_cases, same-from, same-refl, same-true}
use Rattle.desk_ops.proofs.Tree.{filter-hit, filter-miss}
use Rattle.desk_replica.specs.Seats.{Rise}
use Rattle.feed_history.specs.Rows.{at}
use Rattle.feed_history.specs.Corrections.{AreEnds, AreNext, ends, is_end, next_of}

-- ---- what bears a stamp

borne_by : (os : List Op) (t : Stamp) (p : Op) → Among p os → stamp_of p ≡ t → is_borne os t ≡ true
unfolding is_borne
borne_by [] t p m i = absurd m
borne_by (o ∷ os) t p (inl e) i = ap (λ b. b || list_any (bears t) os) (same-from (stamp_of o) t (ap stamp_of e ∙ i))
borne_by (o ∷ os) t p (inr m) i = ap (λ b. same (stamp_of o) t || b) (borne_by os t p m i) ∙ or-true (same (stamp_of o) t)

bearer : (os : List Op) (t : Stamp) → is_borne os t ≡ true → (p : Op) × Among p os × (stamp_of p ≡ t)
unfolding is_borne
bearer [] t e = absurd (true≢false (sym e))
bearer (o ∷ os) t e = by_cases (same (stamp_of o) t)
    (λ k. (o, inl refl, same-true (stamp_of o) t k))
    (λ k. let r = bearer os t (sym (ap (λ b. b || list_any (bears t) os) k) ∙ e) in (r.0, inr r.1, r.2))

more_borne : (o : Op) (os : List Op) (t : Stamp) → same (stamp_of o) t ≡ false → is_borne (o ∷ os) t ≡ is_borne os t
unfolding is_borne
more_borne o os t ne = ap (λ b. b || list_any (bears t) os) ne

own_borne : (o : Op) (os : List Op) (t : Stamp) → same (stamp_of o) t ≡ true → is_borne (o ∷ os) t ≡ true
unfolding is_borne
own_borne o os t e = ap (λ b. b || list_any (bears t) os) e

none_before : (s : Stamp) (os : List Op) → ((j : ℕ) (d : Op) → j < length os → before (stamp_of (get_or os j d)) s ≡ false) → (p : Op) → Among p os → before (stamp_of p) s ≡ false
none_before s [] h p m = absurd m
none_before s (o ∷ os) h p (inl e) = subst (λ q. before (stamp_of q) s ≡ false) e (h 0 o (omega arith))
none_before s (o ∷ os) h p (inr m) = none_before s os (λ j d lt. h (suc j) d (omega arith)) p m

rest_rise : (o : Op) (os : List Op) → Rise stamp_of (o ∷ os) → Rise stamp_of os
rest_rise o os up i j d le lt = up (suc i) (suc j) d (omega arith) (omega arith)

late : (o : Op) (os : List Op) → Rise stamp_of (o ∷ os) → (p : Op) → Among p os → before (stamp_of p) (stamp_of o) ≡ false
late o os up p m = none_before (stamp_of o) os (λ j d lt. up 0 (suc j) d (omega arith) (omega arith)) p m

counter_from : (s t : Stamp) → before t s ≡ false → s.counter ≤ t.counter
counter_from s t e = by_cases (nat_lt t.counter s.counter)
    (λ k. let less : t.counter < s.counter = grind (arith, nat_tests) in absurd (true≢false (sym (counter-before t s less) ∙ e)))
    (λ k. grind (arith, nat_tests))

-- ---- the next counter of a site

same_site : (a b : ℕ) → (a == b) ≡ true → a ≡ b
same_site a b e = grind (arith, nat_tests)

next_on : (p : Op) (ps : List Op) (site : ℕ) → ((stamp_of p).site == site) ≡ true → next_of (p ∷ ps) site ≡ (stamp_of p).counter
next_on p ps site e = ap (λ b. cond b (stamp_of p).counter (next_of ps site)) e

next_off : (p : Op) (ps : List Op) (site : ℕ) → ((stamp_of p).site == site) ≡ false → next_of (p ∷ ps) site ≡ next_of ps site
next_off p ps site e = ap (λ b. cond b (stamp_of p).counter (next_of ps site)) e

-- it is borne
next_borne : (os : List Op) (site n : ℕ) → 0 < n → next_of os site ≡ n → is_borne os (at site n) ≡ true
next_borne [] site n some e = absurd (omega (arith, e))
next_borne (p ∷ ps) site n some e = by_cases ((stamp_of p).site == site)
    (λ k.
    let c : (stamp_of p).counter ≡ n = sym (next_on p ps site k) ∙ e in
    let t : (stamp_of p).site ≡ site = same_site (stamp_of p).site site k in
    own_borne p ps (at site n) (same-from (stamp_of p) (at site n) (λ i. record { counter = c i; site = t i })))
    (λ k. go (same (stamp_of p) (at site n)) refl (next_borne ps site n some (sym (next_off p ps site k) ∙ e)))
  where
    go : (b : Bool) → same (stamp_of p) (at site n) ≡ b → is_borne ps (at site n) ≡ true → is_borne (p ∷ ps) (at site n) ≡ true
    go true i h = own_borne p ps (at site n) i
    go false i h = more_borne p ps (at site n) i ∙ h

-- none that is borne is smaller, and it is none of those before all
next_least : (os : List Op) (site least k : ℕ) → Rise stamp_of os → ((p : Op) → Among p os → least ≤ (stamp_of p).counter) → is_borne os (at site k) ≡ true → (least ≤ next_of os site) × (next_of os site ≤ k)
next_least [] site least k up from e = let r = bearer [] (at site k) e in absurd r.1
next_least (p ∷ ps) site least k up from e = by_cases ((stamp_of p).site == site)
    (λ i.
    let c : next_of (p ∷ ps) site ≡ (stamp_of p).counter = next_on p ps site i in
    let r = bearer (p ∷ ps) (at site k) e in
    let own : least ≤ (stamp_of p).counter = from p (inl refl) in
    let most : (stamp_of p).counter ≤ k = go r.0 r.1 r.2 in
    (omega (arith, c, own), omega (arith, c, most)))
    (λ i.
    let c : next_of (p ∷ ps) site ≡ next_of ps site = next_off p ps site i in
    let other : same (stamp_of p) (at site k) ≡ false = by_cases (same (stamp_of p) (at site k))
    (λ s. absurd (true≢false (sym (ap (λ (t : Stamp). t.site == site) (same-true (stamp_of p) (at site k) s) ∙ own_site) ∙ i)))
    (λ s. s)
    in
    let r = next_least ps site least k (rest_rise p ps up) (λ q m. from q (inr m)) (sym (more_borne p ps (at site k) other) ∙ e) in
    (omega (arith, c, r.0), omega (arith, c, r.1)))
  where
    own_site : (site == site) ≡ true
    own_site = grind (arith, nat_tests)

    go : (q : Op) → Among q (p ∷ ps) → stamp_of q ≡ at site k → (stamp_of p).counter ≤ k
    go q (inl i) s = let c : (stamp_of p).counter ≡ k = ap (λ (o : Op). (stamp_of o).counter) i ∙ ap (λ (t : Stamp). t.counter) s in omega (arith, c)
    go q (inr m) s = let c : (stamp_of q).counter ≡ k = ap (λ (t : Stamp). t.counter) s in let l : (stamp_of p).counter ≤ (stamp_of q).counter = counter_from (stamp_of p) (stamp_of q) (late p ps up q m) in omega (arith, c, l)

-- ---- one operation more in front

filter_kept : {X : Type 0} (f : X → Bool) (xs : List X) → ((x : X) → Among x xs → f x ≡ true) → filter f xs ≡ xs
filter_kept f [] h = refl
filter_kept f (x ∷ xs) h = filter-hit f x xs (h x (inl refl)) ∙ ap (λ l. x ∷ l) (filter_kept f xs (λ y m. h y (inr m)))

filter_alike : {X : Type 0} (f g : X → Bool) (xs : List X) → ((x : X) → Among x xs → f x ≡ g x) → filter f xs ≡ filter g xs
filter_alike f g [] h = refl
filter_alike f g (x ∷ xs) h = by_cases (g x)
    (λ e. filter-hit f x xs (h x (inl refl) ∙ e) ∙ ap (λ l. x ∷ l) (filter_alike f g xs (λ y m. h y (inr m))) ∙ sym (filter-hit g x xs e))
    (λ e. filter-miss f x xs (h x (inl refl) ∙ e) ∙ filter_alike f g xs (λ y m. h y (inr m)) ∙ sym (filter-miss g x xs e))

abbrev other : Stamp → Stamp → Bool
other o s = not (same s o)

-- a stamp that was there already is there once
again : (o : Op) (os : List Op) → Rise stamp_of (o ∷ os) → is_borne os (stamp_of o) ≡ true → stamps (o ∷ os) ≡ stamps os
again o [] up e = let r = bearer [] (stamp_of o) e in absurd r.1
again o (p ∷ ps) up e = subst (λ s. s ∷ filter (other s) (stamps (p ∷ ps)) ≡ stamps (p ∷ ps)) first (ap (λ l. stamp_of p ∷ l) (filter-miss (other (stamp_of p)) (stamp_of p) (filter (other (stamp_of p)) (stamps ps)) (ap not (same-refl (stamp_of p)))
    ∙ filter_kept (other (stamp_of p)) (filter (other (stamp_of p)) (stamps ps)) (λ t m. (among-filter (other (stamp_of p)) (stamps ps) t m).1)))
  where
    go : (q : Op) → Among q (p ∷ ps) → stamp_of q ≡ stamp_of o → same (stamp_of p) (stamp_of o) ≡ true
    go q (inl i) s = same-from (stamp_of p) (stamp_of o) (ap stamp_of i ∙ s)
    go q (inr m) s = by_cases (same (stamp_of p) (stamp_of o))
        (λ k. k)
        (λ k. absurd (true≢false (sym (before-other (stamp_of p) (stamp_of o) (late o (p ∷ ps) up p (inl refl)) k)
        ∙ subst (λ t. before t (stamp_of p) ≡ false) s (late p ps (rest_rise o (p ∷ ps) up) q m))))

    first : stamp_of p ≡ stamp_of o
    first = let r = bearer (p ∷ ps) (stamp_of o) e in same-true (stamp_of p) (stamp_of o) (go r.0 r.1 r.2)

-- one that was not is the first
anew : (o : Op) (os : List Op) → is_borne os (stamp_of o) ≡ false → stamps (o ∷ os) ≡ stamp_of o ∷ stamps os
anew o os ne = ap (λ l. stamp_of o ∷ l) (filter_kept (other (stamp_of o)) (stamps os) (λ t m.
    let r = among-stamps os t m in
    by_cases (same t (stamp_of o))
    (λ k. absurd (true≢false (sym (borne_by os (stamp_of o) r.0 r.1 (r.2 ∙ same-true t (stamp_of o) k)) ∙ ne)))
    (λ k. ap not k)))

-- the others end as before
others : (o : Op) (os : List Op) → Rise stamp_of (o ∷ os) → filter (is_end (o ∷ os)) (stamps os) ≡ ends os
others o os up = filter_alike (is_end (o ∷ os)) (is_end os) (stamps os) (λ t m.
    let r = among-stamps os t m in
    let behind : (stamp_of o).counter ≤ t.counter = counter_from (stamp_of o) t (subst (λ u. before u (stamp_of o) ≡ false) r.2 (late o os up r.0 r.1)) in
    let apart : same (stamp_of o) (at t.site (t.counter + 1)) ≡ false = by_cases (same (stamp_of o) (at t.site (t.counter + 1)))
    (λ k. let c : (stamp_of o).counter ≡ t.counter + 1 = ap (λ (u : Stamp). u.counter) (same-true (stamp_of o) (at t.site (t.counter + 1)) k) in absurd (omega (arith, c, behind)))
    (λ k. k)
    in
    ap not (more_borne o os (at t.site (t.counter + 1)) apart))

module _ (o : Op) (os : List Op) (up : Rise stamp_of (o ∷ os)) (some : 0 < (stamp_of o).counter) where
  abbrev s : Stamp
  s = stamp_of o

  abbrev after : Stamp
  after = at s.site (s.counter + 1)

  from : (p : Op) → Among p os → s.counter ≤ (stamp_of p).counter
  from p m = counter_from s (stamp_of p) (late o os up p m)

  apart : same s after ≡ false
  apart = by_cases (same s after) (λ k. let c : s.counter ≡ s.counter + 1 = ap (λ (u : Stamp). u.counter) (same-true s after k) in absurd (omega (arith, c))) (λ k. k)

  pub end_again : next_of os s.site ≡ s.counter → ends (o ∷ os) ≡ ends os
  end_again e =
      ap (filter (is_end (o ∷ os))) (again o os up (next_borne os s.site s.counter some e)) ∙ others o os up

  unborne_here : s.counter < next_of os s.site → is_borne os s ≡ false
  unborne_here less = by_cases (is_borne os s) (λ k. let r = next_least os s.site s.counter s.counter (rest_rise o os up) from k in absurd (omega (arith, less, r.1))) (λ k. k)

  pub end_follows : next_of os s.site ≡ s.counter + 1 → ends (o ∷ os) ≡ ends os
  end_follows e =
      ap (filter (is_end (o ∷ os))) (anew o os (unborne_here (omega (arith, e))))
      ∙ filter-miss (is_end (o ∷ os)) s (stamps os) (ap not (more_borne o os after apart ∙ next_borne os s.site (s.counter + 1) (omega arith) e))
      ∙ others o os up

  pub end_anew : (next_of os s.site ≡ s.counter → ⊥) → (next_of os s.site ≡ s.counter + 1 → ⊥) → ends (o ∷ os) ≡ s ∷ ends os
  end_anew ne nf =
      ap (filter (is_end (o ∷ os))) (anew o os here)
      ∙ filter-hit (is_end (o ∷ os)) s (stamps os) (ap not (more_borne o os after apart ∙ there))
      ∙ ap (λ l. s ∷ l) (others o os up)
    where
      here : is_borne os s ≡ false
      here = by_cases (is_borne os s)
          (λ k. let r = next_least os s.site s.counter s.counter (rest_rise o os up) from k in absurd (ne (omega (arith, r.0, r.1))))
          (λ k. k)

      there : is_borne os after ≡ false
      there = by_cases (is_borne os after)
          (λ k. let r = next_least os s.site s.counter (s.counter + 1) (rest_rise o os up) from k in
          elim (eq-or-lt_of_le r.0) [
            | inl e ↦ absurd (ne (sym e))
            | inr less ↦ absurd (nf (omega (arith, less, r.1)))
          ])
          (λ k. k)

-- ---- the table

pub table : (o : Op) (os : List Op) (next : List ℕ) (site : ℕ) → site ≡ (stamp_of o).site → site < length next → AreNext os next → AreNext (o ∷ os) (set next site (stamp_of o).counter)
table o os next site is within t k = by_cases ((stamp_of o).site == k)
    (λ e.
    let same : k ≡ site = sym (is ∙ same_site (stamp_of o).site k e) in
    ap (λ i. get_or (set next site (stamp_of o).counter) i 0) same ∙ get_or-set_same next site (stamp_of o).counter 0 within ∙ sym (next_on o os k e))
    (λ e.
    let apart : k ≢ site = λ i. true≢false (sym (same_here k (stamp_of o).site (sym is ∙ sym i)) ∙ e) in
    get_or-set_other next site k (stamp_of o).counter 0 apart ∙ t k ∙ sym (next_off o os k e))
  where
    same_here : (k a : ℕ) → a ≡ k → (a == k) ≡ true
    same_here k a i = grind (arith, nat_tests)

-- a zero more at the end is none
pub zero_more : (next : List ℕ) (k : ℕ) → get_or (next ++ 0 ∷ []) k 0 ≡ get_or next k 0
zero_more [] zero = refl
zero_more [] (suc k) = refl
zero_more (n ∷ next) zero = refl
zero_more (n ∷ next) (suc k) = zero_more next k

drop_end : (ops : List Op) → drop (length ops) ops ≡ []
drop_end [] = refl
drop_end (o ∷ os) = drop_end os

pub ends_begun : (ops : List Op) (lasts : List Stamp) (next : List ℕ) → lasts ≡ [] → next ≡ [] → AreEnds (drop (length ops) ops) lasts next
ends_begun ops lasts next none empty = subst (λ l. AreEnds l lasts next) (sym (drop_end ops)) (record { whole = ap reverse none; behind = λ site. ap (λ l. get_or l site 0) empty })

rise_from : (ops : List Op) (n : ℕ) → Rise stamp_of ops → Rise stamp_of (drop n ops)
rise_from ops zero up = up
rise_from [] (suc n) up = up
rise_from (o ∷ os) (suc n) up = rise_from os n (rest_rise o os up)

-- ---- the step

module _ (o : Op) (os : List Op) (up : Rise stamp_of (o ∷ os)) (some : 0 < (stamp_of o).counter) (lasts : List Stamp) (next : List ℕ) (site : ℕ) (is : site ≡ (stamp_of o).site) (lt : site < length next) (w : AreEnds os lasts next) where
  later : get_or next site 0 ≡ next_of os (stamp_of o).site
  later = w.behind site ∙ ap (next_of os) is

  end_known : (get_or next site 0 ≡ (stamp_of o).counter) ⊎ (get_or next site 0 ≡ (stamp_of o).counter + 1) → AreEnds (o ∷ os) lasts (set next site (stamp_of o).counter)
  end_known k = record {
    whole = w.whole ∙ sym (elim k [ inl e ↦ end_again o os up some (sym later ∙ e) | inr e ↦ end_follows o os up some (sym later ∙ e) ]);
    behind = table o os next site is lt w.behind;
  }

  end_more : (get_or next site 0 ≡ (stamp_of o).counter → ⊥) → (get_or next site 0 ≡ (stamp_of o).counter + 1 → ⊥) → AreEnds (o ∷ os) (lasts ++ stamp_of o ∷ []) (set next site (stamp_of o).counter)
  end_more ne nf = record {
    whole = reverse-append lasts (stamp_of o ∷ []) ∙ ap (λ l. stamp_of o ∷ l) w.whole ∙ sym (end_anew o os up some (λ e. ne (later ∙ e)) (λ e. nf (later ∙ e)));
    behind = table o os next site is lt w.behind;
  }

module _ (ops : List Op) (n : ℕ) (d : Op) (s : Stamp) (lasts : List Stamp) (next : List ℕ) (site : ℕ) (up : Rise stamp_of ops) (lawful : All IsLawful ops) (within : n < length ops) (there : s ≡ stamp_of (get_or ops n d)) (is : site ≡ s.site) (lt : site < length next)
    (w : AreEnds (drop (n + 1) ops) lasts next) where
  abbrev o : Op
  o = get_or ops n d

  cons : drop n ops ≡ o ∷ drop (n + 1) ops
  cons = let next : suc n ≡ n + 1 = omega arith in subst (λ k. drop n ops ≡ o ∷ drop k ops) next (drop-cons ops n d within)

  rising : Rise stamp_of (o ∷ drop (n + 1) ops)
  rising = subst (Rise stamp_of) cons (rise_from ops n up)

  some : 0 < (stamp_of o).counter
  some = let l = (lawful-stamp o (lawful n d within)).0 in omega (arith, l)

  own : site ≡ (stamp_of o).site
  own = is ∙ ap (λ (t : Stamp). t.site) there

  pub known : (get_or next site 0 ≡ s.counter) ⊎ (get_or next site 0 ≡ s.counter + 1) → AreEnds (drop n ops) lasts (set next site s.counter)
  known k = subst (λ l. AreEnds l lasts (set next site s.counter)) (sym cons) (subst (λ (t : Stamp). AreEnds (o ∷ drop (n + 1) ops) lasts (set next site t.counter)) (sym there)
      (end_known o (drop (n + 1) ops) rising some lasts next site own lt w (subst (λ (t : Stamp). (get_or next site 0 ≡ t.counter) ⊎ (get_or next site 0 ≡ t.counter + 1)) there k)))

  pub fresh : (longer : List Stamp) → longer ≡ lasts ++ s ∷ [] → (get_or next site 0 ≡ s.counter → ⊥) → (get_or next site 0 ≡ s.counter + 1 → ⊥) → AreEnds (drop n ops) longer (set next site s.counter)
  fresh longer more ne nf = subst (λ l. AreEnds (drop n ops) l (set next site s.counter)) (sym more) (subst (λ l. AreEnds l (lasts ++ s ∷ []) (set next site s.counter)) (sym cons) (subst (λ (t : Stamp). AreEnds (o ∷ drop (n + 1) ops) (lasts ++ t ∷ []) (set next site t.counter)) (sym there)
      (end_more o (drop (n + 1) ops) rising some lasts next site own lt w (λ e. ne (e ∙ ap (λ (t : Stamp). t.counter) (sym there))) (λ e. nf (e ∙ ap (λ (t : Stamp). t.counter + 1) (sym there))))))
