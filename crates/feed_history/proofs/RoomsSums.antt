-- Sums over all sites.
use Rattle.std.proofs.Common.{◌≡◌, ℕ, zero, suc, ◌+◌, ◌<◌, ◌≤◌, Bool, true, false, cond, List, [], ◌∷◌, length, map, refl, sym, ap, subst, ◌∙◌, inl, inr, arith}
use Rattle.std.specs.Prelude.{◌==◌, count_by, filter, sum_by}
use Rattle.std.specs.List.{range_with_len}
use Rattle.std.proofs.lemmas.Bool.{eqb-false, eqb-true, ne_eqb}
use Rattle.std.proofs.lemmas.List.{length-map}
use Rattle.std.proofs.lemmas.List.Sums.{length-filter, sum_by-cons}
use Rattle.desk_ops.specs.declared.op.Op.{Op}
use Rattle.desk_ops.specs.declared.fault.CopyFault.{CopyFault}
use Rattle.desk_ops.specs.Op.{Insertion, stamp_of}
use Rattle.desk_ops.specs.OpSet.{OpSet, in_order}
use Rattle.desk_ops.specs.Lists.{Among}
use Rattle.desk_ops.specs.Live.{insert_of}
use Rattle.desk_ops.specs.Shown.{shown_of}
use Rattle.desk_ops.specs.Faults.{faults_of}
use Rattle.desk_ops.proofs.Ends.{held_among, op_from_insert}
use Rattle.desk_ops.proofs.Faulty.{among-faults, among-stamps}
use Rattle.desk_ops.proofs.Lists.{Each, each-from_among}
use Rattle.desk_ops.proofs.Means.{live-parts}
use Rattle.desk_ops.proofs.Parts.{shown_live}
use Rattle.desk_ops.proofs.Stamps.{by_cases}
use Rattle.feed_history.specs.Rooms.{fault_site, is_by, is_delete, is_insert, is_set, sites, sites_at_fault, sites_shown, times}
use Rattle.feed_history.specs.RoomsLaws.{AreNumbered, AreSums}
use Rattle.feed_history.proofs.RoomsLines.{sites_are}

-- ---- sums

sum_same : (f g : ℕ → ℕ) (xs : List ℕ) → ((n : ℕ) → f n ≡ g n) → sum_by f xs ≡ sum_by g xs
sum_same f g xs e = λ i. sum_by (λ n. e n i) xs

sum_none : (xs : List ℕ) → sum_by (λ n. 0) xs ≡ 0
sum_none [] = refl
sum_none (x ∷ xs) = let rest : sum_by (λ n. 0) xs ≡ 0 = sum_none xs in omega (arith, sum_by-cons (λ n. 0) x xs, rest)

sum_both : (f g : ℕ → ℕ) (xs : List ℕ) → sum_by (λ n. f n + g n) xs ≡ sum_by f xs + sum_by g xs
sum_both f g [] = refl
sum_both f g (x ∷ xs) =
    let h : sum_by (λ n. f n + g n) xs ≡ sum_by f xs + sum_by g xs = sum_both f g xs in
    omega (arith, sum_by-cons (λ n. f n + g n) x xs, sum_by-cons f x xs, sum_by-cons g x xs, h)

-- of numbers from one on, what one of them has alone
past_one : (k c a n : ℕ) → k < a → sum_by (λ s. cond (k == s) c 0) (range_with_len a n) ≡ 0
past_one k c a zero l = refl
past_one k c a (suc n) l =
    let other : cond (k == a) c 0 ≡ 0 = ap (λ b. cond b c 0) (ne_eqb k a (λ e. omega (arith, e, l))) in
    let rest : sum_by (λ s. cond (k == s) c 0) (range_with_len (a + 1) n) ≡ 0 = past_one k c (a + 1) n (omega (arith, l)) in
    omega (arith, sum_by-cons (λ s. cond (k == s) c 0) a (range_with_len (a + 1) n), other, rest)

one_alone : (k c a n : ℕ) → a ≤ k → k < a + n → sum_by (λ s. cond (k == s) c 0) (range_with_len a n) ≡ c
one_alone k c a zero l m = absurd (omega (arith, l, m))
one_alone k c a (suc n) l m = by_cases (k == a)
    (λ e. let here : cond (k == a) c 0 ≡ c = ap (λ b. cond b c 0) e in
    let rest : sum_by (λ s. cond (k == s) c 0) (range_with_len (a + 1) n) ≡ 0 = past_one k c (a + 1) n (let q : k ≡ a = eqb-true k a e in omega (arith, q)) in
    omega (arith, sum_by-cons (λ s. cond (k == s) c 0) a (range_with_len (a + 1) n), here, rest))
    (λ e. let here : cond (k == a) c 0 ≡ 0 = ap (λ b. cond b c 0) e in
    let ne : k ≡ a → ⊥ = eqb-false k a e in
    let lt : a + 1 ≤ k = omega (arith, l, ne) in
    let rest : sum_by (λ s. cond (k == s) c 0) (range_with_len (a + 1) n) ≡ c = one_alone k c (a + 1) n lt (omega (arith, m)) in
    omega (arith, sum_by-cons (λ s. cond (k == s) c 0) a (range_with_len (a + 1) n), here, rest))

-- ---- each is counted once

module _ {X : Type 0} (p : X → Bool) (key : X → ℕ) where
  with_one : (x : X) (xs : List X) (s : ℕ) → count_by p (filter (λ y. key y == s) (x ∷ xs)) ≡ cond (key x == s) (cond (p x) 1 0) 0 + count_by p (filter (λ y. key y == s) xs)
  with_one x xs s = by (key x == s)
    where
      by : (b : Bool) → count_by p (cond b (x ∷ filter (λ y. key y == s) xs) (filter (λ y. key y == s) xs)) ≡ cond b (cond (p x) 1 0) 0 + count_by p (filter (λ y. key y == s) xs)
      by true = sum_by-cons (λ y. cond (p y) 1 0) x (filter (λ y. key y == s) xs)
      by false = omega arith

  pub counted_once : (xs : List X) (n : ℕ) → Each (λ x. key x < n) xs → sum_by (λ s. count_by p (filter (λ y. key y == s) xs)) (range_with_len 0 n) ≡ count_by p xs
  counted_once [] n few = sum_none (range_with_len 0 n)
  counted_once (x ∷ xs) n few =
      let all = range_with_len 0 n in
      let rest : sum_by (λ s. count_by p (filter (λ y. key y == s) xs)) (range_with_len 0 n) ≡ count_by p xs = counted_once xs n few.1 in
      let one : sum_by (λ s. cond (key x == s) (cond (p x) 1 0) 0) (range_with_len 0 n) ≡ cond (p x) 1 0 = one_alone (key x) (cond (p x) 1 0) 0 n (omega arith) (omega (arith, few.0)) in
      sum_same _ _ (range_with_len 0 n) (with_one x xs)
      ∙ sum_both (λ s. cond (key x == s) (cond (p x) 1 0) 0) (λ s. count_by p (filter (λ y. key y == s) xs)) (range_with_len 0 n)
      ∙ (λ i. one i + rest i) ∙ sym (sum_by-cons (λ y. cond (p y) 1 0) x xs)

-- of numbers below one, how often each is among them
count_all : (xs : List ℕ) → count_by (λ n. true) xs ≡ length xs
count_all [] = refl
count_all (x ∷ xs) = let rest : count_by (λ n. true) xs ≡ length xs = count_all xs in omega (arith, sum_by-cons (λ n. 1) x xs, rest)

times_once : (xs : List ℕ) (n : ℕ) → Each (λ x. x < n) xs → sum_by (λ s. times s xs) (range_with_len 0 n) ≡ length xs
times_once xs n few =
    sum_same _ _ (range_with_len 0 n) (λ s. sym (length-filter (λ y. y == s) xs) ∙ sym (count_all (filter (λ y. y == s) xs)))
    ∙ counted_once (λ y. true) (λ y. y) xs n few ∙ count_all xs

-- ---- of a set

each_map : {X : Type 0} (f : X → ℕ) (n : ℕ) (xs : List X) → ((x : X) → Among x xs → f x < n) → Each (λ k. k < n) (map f xs)
each_map f n [] h = tt
each_map f n (x ∷ xs) h = (h x (inl refl), each_map f n xs (λ y m. h y (inr m)))

shown_numbered : (set : OpSet) → AreNumbered set → (x : Insertion) → Among x (shown_of set) → x.stamp.site < 65536
shown_numbered set h x m = h (insert_of x) (op_from_insert set x (live-parts (in_order set) x (shown_live set x m)).0).0

fault_numbered : (set : OpSet) → AreNumbered set → (f : CopyFault) → Among f (faults_of set) → fault_site f < 65536
fault_numbered set h f m =
    let bearer = among-stamps (in_order set) f.stamp (among-faults (in_order set) f m).0 in
    subst (λ s. s.site < 65536) bearer.2 (h bearer.0 (held_among set bearer.0 bearer.1))

pub sums_are : (set : OpSet) → AreNumbered set → AreSums set
sums_are set h = record {
  inserts = of_kind is_insert;
  deletes = of_kind is_delete;
  sets = of_kind is_set;
  shown = ap (sum_by (λ s. times s (sites_shown set))) sites_are ∙ times_once (sites_shown set) 65536 (each_map (λ (x : Insertion). x.stamp.site) 65536 (shown_of set) (shown_numbered set h))
      ∙ length-map (shown_of set) (λ (x : Insertion). x.stamp.site) ∙ sym (length-map (shown_of set) (λ (x : Insertion). x.symbol));
  faults = ap (sum_by (λ s. times s (sites_at_fault set))) sites_are ∙ times_once (sites_at_fault set) 65536 (each_map fault_site 65536 (faults_of set) (fault_numbered set h))
      ∙ length-map (faults_of set) fault_site;
}
  where
    of_kind : (p : Op → Bool) → sum_by (λ s. count_by p (filter (is_by s) (in_order set))) sites ≡ count_by p (in_order set)
    of_kind p =
        ap (sum_by (λ s. count_by p (filter (is_by s) (in_order set)))) sites_are
        ∙ counted_once p (λ op. (stamp_of op).site) (in_order set) 65536 (each-from_among (λ op. (stamp_of op).site < 65536) (in_order set) (λ op m. h op (held_among set op m)))
