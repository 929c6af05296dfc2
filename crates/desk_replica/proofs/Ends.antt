-- Where ways end, said from the oldest operation to the newest.
use Rattle.std.proofs.Common.{◌≡◌, ℕ, zero, suc, ◌+◌, ◌<◌, ◌≤◌, Bool, true, false, not, cond, ◌||◌, List, [], ◌∷◌, ◌++◌, map, length, take, drop, get_or, reverse, refl, sym, ap, ◌∙◌, subst, ◌⊎◌, inl, inr, arith}
use Rattle.std.specs.Prelude.{Option, Some, None, Result, Ok, Err, OnOk, nat_lt}
use Rattle.std.specs.List.{filter, filter_map, cons_option, list_any}
use Rattle.std.specs.Option.{unwrap_or}
use Rattle.std.proofs.lemmas.Bool.{true≢false, or_parts}
use Rattle.std.proofs.lemmas.Bool.Decides.{nat_tests}
use Rattle.std.proofs.Math.Bool.{or-true}
use Rattle.std.proofs.Math.Seq.{drop-cons}
use Rattle.std.proofs.lemmas.List.{take_all, take_more, take-append-drop, append-nil, map-append, length-map, length-take-le}
use Rattle.std.proofs.lemmas.List.Elements.{filter_map-append}
use Rattle.std.specs.declared.cmp.Ordering.TheVariants.{Less}
use Rattle.desk_ops.specs.declared.op.Stamp.{Stamp}
use Rattle.desk_ops.specs.declared.op.Op.{Op}
use Rattle.desk_ops.specs.declared.op.Op.TheVariants.{Insert, Delete, Set}
use Rattle.desk_ops.specs.declared.fault.FaultKind.{FaultKind}
use Rattle.desk_ops.specs.declared.fault.FaultKind.TheVariants.{Forked, Void, Waiting}
use Rattle.desk_ops.specs.declared.fault.CopyFault.{CopyFault}
use Rattle.desk_memory.specs.declared.NoMemory.{NoMemory}
use Rattle.desk_ops.specs.Stamp.{same, before, head, is_head}
use Rattle.desk_ops.specs.Op.{stamp_of, target_of, insertion, Insertion, IsLawful}
use Rattle.desk_ops.specs.Order.{op_cmp}
use Rattle.desk_ops.specs.OpSet.{OpSet, in_order, AllLawful}
use Rattle.desk_ops.specs.Lists.{Among}
use Rattle.desk_ops.specs.Held.{bears, bearing, is_one, is_clear, is_borne, clear_ops, clear_inserts, end_of}
use Rattle.desk_ops.specs.Faults.{stamps, fault_of, fault_of_end, fault_among, marked, copy_faults}
use Rattle.desk_ops.proofs.Lawful.{lawful-stamp}
use Rattle.desk_ops.proofs.Tree.{filter-hit, filter-miss}
use Rattle.desk_ops.proofs.Stamps.{by_cases, same-from, same-true, same-symm, same-refl, before-irrefl, before-other, before-apart_left}
use Rattle.desk_ops.proofs.Lists.{Each, each-among, each-from_among, among-filter, among-filter_from, among-filter_map, among-at, each-at}
use Rattle.desk_ops.proofs.Paths.{way-absent, Each-reverse}
use Rattle.desk_ops.proofs.Means.{IsOrdered, ordered, clear_one, insert_stamp, counter-before}
use Rattle.desk_ops.proofs.Bearers.{stamp_not_before}
use Rattle.desk_ops.proofs.Ends.{on, at_head, held_among, insert_from_op}
use Rattle.desk_ops.proofs.Faulty.{fault_at, end_head, end_borne, end_bare}
use Rattle.desk_replica.specs.Ways.{kind_at, ways_before, faults_before, IsInOrder, IsBearer, AreBefore, begins_with, ends_with, hanging_on, AreReported}
use Rattle.desk_replica.proofs.ByStamp.{ops_rise}
use Rattle.desk_replica.proofs.Passes.{filter-last, each-taken, earlier_all, below_it}

-- ---- what a target ends at

-- what no clear insert bears is where its way ends
end_here : (ops : List Op) (s : Stamp) → ((x : Insertion) → Among x (clear_inserts ops) → same x.stamp s ≡ false) → end_of ops s ≡ s
end_here ops s none = way-absent (reverse (clear_inserts ops)) s (Each-reverse (λ x. same x.stamp s ≡ false) (clear_inserts ops) (each-from_among (λ x. same x.stamp s ≡ false) (clear_inserts ops) none))

-- a clear insert is a clear operation
clear-insert_op : (ops : List Op) (x : Insertion) → Among x (clear_inserts ops) → (o : Op) × Among o ops × (is_clear ops (stamp_of o) ≡ true) × (insertion o ≡ Some x)
unfolding clear_inserts clear_ops
clear-insert_op ops x m =
    let r = among-filter_map insertion (filter (λ op. is_clear ops (stamp_of op)) ops) x m in
    let q = among-filter (λ op. is_clear ops (stamp_of op)) ops r.0 r.1 in
    (r.0, q.0, q.1, r.2)

borne-among : (ops : List Op) (o : Op) (s : Stamp) → Among o ops → stamp_of o ≡ s → is_borne ops s ≡ true
unfolding is_borne
borne-among [] o s m e = absurd m
borne-among (p ∷ ops) o s (inl i) e = ap (λ b. b || list_any (bears s) ops) (same-from (stamp_of p) s (ap stamp_of i ∙ e))
borne-among (p ∷ ops) o s (inr m) e = ap (λ b. same (stamp_of p) s || b) (borne-among ops o s m e) ∙ or-true (same (stamp_of p) s)

-- a stamp that none bears
bare-end : (ops : List Op) (s : Stamp) → is_borne ops s ≡ false → end_of ops s ≡ s
bare-end ops s bare = end_here ops s (λ x m. by_cases (same x.stamp s)
    (λ e. let r = clear-insert_op ops x m in absurd (true≢false (sym (borne-among ops r.0 s r.1 (insert_stamp r.0 x r.3 ∙ same-true x.stamp s e)) ∙ bare)))
    (λ e. e))

is_it : (t : Stamp) → is_head t ≡ same t head
unfolding same
is_it t = refl

pub kind_head : (h : OpSet) → AllLawful h → (t : Stamp) → is_head t ≡ true → None ≡ kind_at (in_order h) t
kind_head h lawful t e =
    let i : t ≡ head = same-true t head (sym (is_it t) ∙ e) in
    subst (λ s. None ≡ kind_at (in_order h) s) (sym i) (sym (ap (fault_of_end (in_order h)) (at_head h lawful) ∙ end_head (in_order h) head (same-refl head)))

pub kind_bare : (ops : List Op) (t : Stamp) → is_head t ≡ false → is_borne ops t ≡ false → Some Waiting ≡ kind_at ops t
kind_bare ops t e b = sym (ap (fault_of_end ops) (bare-end ops t b) ∙ end_bare ops t (sym (is_it t) ∙ e) b)

-- a stamp that some operation bears, but no clear insert
kind_void : (ops : List Op) (o : Op) → IsLawful o → Among o ops → ((x : Insertion) → Among x (clear_inserts ops) → same x.stamp (stamp_of o) ≡ false) → kind_at ops (stamp_of o) ≡ Some Void
kind_void ops o l m none = ap (fault_of_end ops) (end_here ops (stamp_of o) none) ∙ end_borne ops (stamp_of o) (by_cases (same (stamp_of o) head)
    (λ e. let i : stamp_of o ≡ head = same-true (stamp_of o) head e in
    let low = (lawful-stamp o l).0 in
    let none : 1 ≤ 0 = subst (λ (t : Stamp). 1 ≤ t.counter) i low in absurd (omega (arith, none)))
    (λ e. e)) (borne-among ops o (stamp_of o) m refl)

-- what hangs on one of the first operations
hanging_at : (f : Op → Option FaultKind) (ops : List Op) (n k : ℕ) (r : Option FaultKind) (d : Op) → k < n → k < length ops → get_or (map f (take n ops)) k r ≡ f (get_or ops k d)
hanging_at f [] n k r d lt within = absurd (omega arith)
hanging_at f (o ∷ ops) zero k r d lt within = absurd (omega arith)
hanging_at f (o ∷ ops) (suc n) zero r d lt within = refl
hanging_at f (o ∷ ops) (suc n) (suc k) r d lt within = hanging_at f ops n k r d (omega arith) (omega arith)

-- ---- the last of some operations

pub ends_at : (ops : List Op) (i : ℕ) (d : Op) (s : Stamp) → i < length ops → ends_with (take (suc i) ops) s ≡ same (stamp_of (get_or ops i d)) s
ends_at [] i d s lt = absurd (omega arith)
ends_at (x ∷ []) zero d s lt = refl
ends_at (x ∷ []) (suc i) d s lt = absurd (omega arith)
ends_at (x ∷ y ∷ ops) zero d s lt = refl
ends_at (x ∷ y ∷ ops) (suc i) d s lt = ends_at (y ∷ ops) i d s (omega arith)

-- of operations in order none of which has a later stamp, the last bears the stamp if any does
pub ends-borne : (s : Stamp) (os : List Op) → IsOrdered os → Each (λ p. before s (stamp_of p) ≡ false) os → ends_with os s ≡ is_borne os s
unfolding is_borne
ends-borne s [] up low = refl
ends-borne s (o ∷ []) up low = sym (or_false (same (stamp_of o) s))
  where
    or_false : (b : Bool) → (b || false) ≡ b
    or_false true = refl
    or_false false = refl
ends-borne s (o ∷ p ∷ os) up low =
    by_cases (same (stamp_of o) s)
    (λ e. ends-borne s (p ∷ os) up.1 low.1 ∙ ap (λ b. b || list_any (bears s) os) (next e) ∙ sym (ap (λ b. b || list_any (bears s) (p ∷ os)) e))
    (λ e. ends-borne s (p ∷ os) up.1 low.1 ∙ sym (ap (λ b. b || list_any (bears s) (p ∷ os)) e))
  where
    next : same (stamp_of o) s ≡ true → same (stamp_of p) s ≡ true
    next e = by_cases (same (stamp_of p) s) (λ k. k)
        (λ k. absurd (true≢false (sym (before-other (stamp_of p) s (subst (λ t. before (stamp_of p) t ≡ false) (same-true (stamp_of o) s e) (stamp_not_before o p up.0.0)) k) ∙ low.1.0)))

-- ---- the first of some operations

not-borne : (s : Stamp) (os : List Op) → Each (λ p. same (stamp_of p) s ≡ false) os → is_borne os s ≡ false
unfolding is_borne
not-borne s [] all = refl
not-borne s (o ∷ os) all = ap (λ b. b || list_any (bears s) os) all.0 ∙ not-borne s os all.1

-- of operations in order none of which has a smaller stamp, the first bears the stamp if any does
begins-borne : (s : Stamp) (os : List Op) → IsOrdered os → Each (λ p. before (stamp_of p) s ≡ false) os → begins_with os s ≡ is_borne os s
unfolding is_borne
begins-borne s [] up late = refl
begins-borne s (o ∷ os) up late =
    by_cases (same (stamp_of o) s)
    (λ e. e ∙ sym (ap (λ b. b || list_any (bears s) os) e))
    (λ e. e ∙ sym (ap (λ b. b || list_any (bears s) os) e ∙ not-borne s os (each-from_among (λ p. same (stamp_of p) s ≡ false) os (λ p m. by_cases (same (stamp_of p) s)
    (λ k. absurd (true≢false (sym (before-other (stamp_of o) s late.0 e) ∙ subst (λ t. before t (stamp_of o) ≡ false) (same-true (stamp_of p) s k) (stamp_not_before o p (each-among (λ p. op_cmp o p ≡ Less) os p up.0 m)))))
    (λ k. k)))))

-- ---- what stands beside an operation

filter-append : (f : Op → Bool) (xs ys : List Op) → filter f (xs ++ ys) ≡ filter f xs ++ filter f ys
filter-append f [] ys = refl
filter-append f (x ∷ xs) ys = elim (f x) as (λ b. cond b (x ∷ filter f (xs ++ ys)) (filter f (xs ++ ys)) ≡ cond b (x ∷ filter f xs) (filter f xs) ++ filter f ys) [
  | true ↦ ap (λ l. x ∷ l) (filter-append f xs ys)
  | false ↦ filter-append f xs ys
]

abbrev some : List Op → Bool
some [] = false
some (o ∷ os) = true

one-between : (xs ys : List Op) (o : Op) → is_one (xs ++ o ∷ ys) ≡ not (some xs || some ys)
one-between [] [] o = refl
one-between [] (y ∷ ys) o = refl
one-between (x ∷ []) ys o = refl
one-between (x ∷ z ∷ xs) ys o = refl

some-borne : (s : Stamp) (ops : List Op) → some (bearing ops s) ≡ is_borne ops s
unfolding is_borne
some-borne s [] = refl
some-borne s (o ∷ ops) = by_cases (same (stamp_of o) s)
    (λ e. ap some (filter-hit (bears s) o ops e) ∙ sym (ap (λ b. b || list_any (bears s) ops) e))
    (λ e. ap some (filter-miss (bears s) o ops e) ∙ some-borne s ops ∙ sym (ap (λ b. b || list_any (bears s) ops) e))

-- an operation is clear where none before it and none behind it bears its stamp
clear-between : (xs ys : List Op) (o : Op) → is_clear (xs ++ o ∷ ys) (stamp_of o) ≡ not (is_borne xs (stamp_of o) || is_borne ys (stamp_of o))
unfolding is_clear
clear-between xs ys o =
    ap is_one (filter-append (bears (stamp_of o)) xs (o ∷ ys) ∙ ap (λ l. bearing xs (stamp_of o) ++ l) (filter-hit (bears (stamp_of o)) o ys (same-refl (stamp_of o))))
    ∙ one-between (bearing xs (stamp_of o)) (bearing ys (stamp_of o)) o
    ∙ ap (λ b. not (b || some (bearing ys (stamp_of o)))) (some-borne (stamp_of o) xs)
    ∙ ap (λ b. not (is_borne xs (stamp_of o) || b)) (some-borne (stamp_of o) ys)

-- ---- one stamp more

or_left : (a b : Bool) → (a || b) ≡ true → b ≡ false → a ≡ true
or_left true b e f = refl
or_left false b e f = absurd (true≢false (sym e ∙ f))

abbrev unlike : Op → Stamp → Bool
unlike x s = not (same s (stamp_of x))

stamps-new : (xs : List Op) (o : Op) → is_borne xs (stamp_of o) ≡ false → stamps (xs ++ o ∷ []) ≡ stamps xs ++ stamp_of o ∷ []
unfolding is_borne
stamps-new [] o b = refl
stamps-new (x ∷ xs) o b =
    let n = or_parts (same (stamp_of x) (stamp_of o)) (list_any (bears (stamp_of o)) xs) b in
    ap (λ ss. stamp_of x ∷ filter (unlike x) ss) (stamps-new xs o n.1)
    ∙ ap (λ ss. stamp_of x ∷ ss) (filter-last (unlike x) (stamps xs) (stamp_of o) ∙ ap (λ c. filter (unlike x) (stamps xs) ++ cond (not c) (stamp_of o ∷ []) []) (same-symm (stamp_of o) (stamp_of x) ∙ n.0))

stamps-old : (xs : List Op) (o : Op) → is_borne xs (stamp_of o) ≡ true → stamps (xs ++ o ∷ []) ≡ stamps xs
unfolding is_borne
stamps-old [] o b = absurd (true≢false (sym b))
stamps-old (x ∷ xs) o b =
    by_cases (is_borne xs (stamp_of o))
    (λ k. ap (λ ss. stamp_of x ∷ filter (unlike x) ss) (stamps-old xs o k))
    (λ k. ap (λ ss. stamp_of x ∷ filter (unlike x) ss) (stamps-new xs o k)
    ∙ ap (λ ss. stamp_of x ∷ ss) (filter-last (unlike x) (stamps xs) (stamp_of o)
    ∙ ap (λ c. filter (unlike x) (stamps xs) ++ cond (not c) (stamp_of o ∷ []) []) (same-symm (stamp_of o) (stamp_of x) ∙ or_left (same (stamp_of x) (stamp_of o)) (list_any (bears (stamp_of o)) xs) b k)
    ∙ append-nil (filter (unlike x) (stamps xs))))

-- ---- the bearers of an operation's stamp

bearing_one : (ops : List Op) (o : Op) → is_clear ops (stamp_of o) ≡ true → Among o ops → fault_at ops (stamp_of o) ≡ fault_of ops o
unfolding is_clear
bearing_one ops o c m = go (bearing ops (stamp_of o)) c (among-filter_from (bears (stamp_of o)) ops o m (same-refl (stamp_of o)))
  where
    go : (os : List Op) → is_one os ≡ true → Among o os → fault_among ops os ≡ fault_of ops o
    go [] e n = absurd n
    go (p ∷ []) e (inl i) = ap (fault_of ops) i
    go (p ∷ []) e (inr n) = absurd n
    go (p ∷ q ∷ os) e n = absurd (true≢false (sym e))

bearing_more : (ops : List Op) (o : Op) → is_clear ops (stamp_of o) ≡ false → Among o ops → fault_at ops (stamp_of o) ≡ Some Forked
unfolding is_clear
bearing_more ops o c m = go (bearing ops (stamp_of o)) c (among-filter_from (bears (stamp_of o)) ops o m (same-refl (stamp_of o)))
  where
    go : (os : List Op) → is_one os ≡ false → Among o os → fault_among ops os ≡ Some Forked
    go [] e n = absurd n
    go (p ∷ []) e n = absurd (true≢false e)
    go (p ∷ q ∷ os) e n = refl

none-borne : (s : Stamp) (os : List Op) → Each (λ p. before (stamp_of p) s ≡ true) os → is_borne os s ≡ false
unfolding is_borne
none-borne s [] b = refl
none-borne s (o ∷ os) b = ap (λ c. c || list_any (bears s) os) (before-apart_left (stamp_of o) s b.0) ∙ none-borne s os b.1

ordered-take : (i : ℕ) (os : List Op) → IsOrdered os → IsOrdered (take i os)
ordered-take zero [] up = tt
ordered-take (suc i) [] up = tt
ordered-take zero (o ∷ os) up = tt
ordered-take (suc i) (o ∷ os) up = (each-taken (λ p. op_cmp o p ≡ Less) os i up.0, ordered-take i os up.1)

ordered-drop : (i : ℕ) (os : List Op) → IsOrdered os → IsOrdered (drop i os)
ordered-drop zero [] up = tt
ordered-drop (suc i) [] up = tt
ordered-drop zero (o ∷ os) up = up
ordered-drop (suc i) (o ∷ os) up = ordered-drop i os up.1

-- what stands from a place on has no smaller stamp than what stands there
from-place : (ops : List Op) (i : ℕ) (d p : Op) → IsOrdered ops → Among p (drop i ops) → before (stamp_of p) (stamp_of (get_or ops i d)) ≡ false
from-place [] zero d p up m = absurd m
from-place [] (suc i) d p up m = absurd m
from-place (o ∷ ops) zero d p up (inl e) = by_cases (before (stamp_of p) (stamp_of o)) (λ k. absurd (before-irrefl (stamp_of o) (subst (λ q. before (stamp_of q) (stamp_of o) ≡ true) (sym e) k))) (λ k. k)
from-place (o ∷ ops) zero d p up (inr m) = stamp_not_before o p (each-among (λ p. op_cmp o p ≡ Less) ops p up.0 m)
from-place (o ∷ ops) (suc i) d p up m = from-place ops i d p up.1 m

module _ (h : OpSet) (lawful : AllLawful h) (i : ℕ) (d o : Op) (lt : i < length (in_order h)) (at : get_or (in_order h) i d ≡ o) where
  here : Among o (in_order h)
  here = subst (λ p. Among p (in_order h)) at (among-at (in_order h) i d lt)

  own : IsLawful o
  own = subst IsLawful at (each-at IsLawful (in_order h) i d lawful lt)

  older_target : (p : Op) → IsLawful p → (t : Stamp) → target_of p ≡ Some t → before t (stamp_of p) ≡ true
  older_target (Insert s p y) l t e = let i : p ≡ t = ap (λ r. unwrap_or r t) e in subst (λ u. before u s ≡ true) i (counter-before p s l.2)
  older_target (Delete s p) l t e = let i : p ≡ t = ap (λ r. unwrap_or r t) e in subst (λ u. before u s ≡ true) i (counter-before p s l.2)
  older_target (Set s k v) l t e = cc

  -- what bears its target stands before it
  pub target_before : (t : Stamp) → target_of o ≡ Some t → AreBefore (in_order h) t i
  target_before t e k b = by_cases (nat_lt k i) (λ c. grind (arith, nat_tests))
      (λ c. let le : i ≤ k = grind (arith, nat_tests) in
      absurd (true≢false (sym (older_target o own t e) ∙ subst (λ s. before s (stamp_of o) ≡ false) (b.bears d)
      (subst (λ p. before (stamp_of (get_or (in_order h) k d)) (stamp_of p) ≡ false) at (ops_rise (in_order h) (ordered h) i k d le b.within)))))

  took : take (i + 1) (in_order h) ≡ take i (in_order h) ++ o ∷ []
  took = take_more (in_order h) i d lt ∙ ap (λ p. take i (in_order h) ++ p ∷ []) at

  faults-new : (k : Option FaultKind) → is_borne (take i (in_order h)) (stamp_of o) ≡ false → fault_at (in_order h) (stamp_of o) ≡ k → faults_before (in_order h) (i + 1) ≡ faults_before (in_order h) i ++ cons_option (marked (stamp_of o) k) []
  faults-new k new e =
      ap (filter_map (λ s. marked s (fault_at (in_order h) s))) (ap stamps took ∙ stamps-new (take i (in_order h)) o new)
      ∙ filter_map-append (λ s. marked s (fault_at (in_order h) s)) (stamps (take i (in_order h))) (stamp_of o ∷ [])
      ∙ ap (λ k. faults_before (in_order h) i ++ cons_option (marked (stamp_of o) k) []) e

  faults-old : is_borne (take i (in_order h)) (stamp_of o) ≡ true → faults_before (in_order h) (i + 1) ≡ faults_before (in_order h) i
  faults-old old = ap (filter_map (λ s. marked s (fault_at (in_order h) s))) (ap stamps took ∙ stamps-old (take i (in_order h)) o old)

  clear-at : is_clear (in_order h) (stamp_of o) ≡ true → is_clear (in_order h) (stamp_of (get_or (in_order h) i d)) ≡ true
  clear-at c = ap (λ p. is_clear (in_order h) (stamp_of p)) at ∙ c

  clear-new : is_clear (in_order h) (stamp_of o) ≡ true → is_borne (take i (in_order h)) (stamp_of o) ≡ false
  clear-new c = none-borne (stamp_of o) (take i (in_order h)) (subst (λ p. Each (λ q. before (stamp_of q) (stamp_of p) ≡ true) (take i (in_order h))) at (earlier_all h i d lt (clear-at c)))

  low : Each (λ p. before (stamp_of o) (stamp_of p) ≡ false) (take i (in_order h))
  low = each-from_among (λ p. before (stamp_of o) (stamp_of p) ≡ false) (take i (in_order h))
      (λ p m. stamp_not_before p o (subst (λ q. op_cmp p q ≡ Less) at (each-among (λ p. op_cmp p (get_or (in_order h) i d) ≡ Less) (take i (in_order h)) p (below_it (in_order h) i d (ordered h) lt) m)))

  last_is : ends_with (take i (in_order h)) (stamp_of o) ≡ is_borne (take i (in_order h)) (stamp_of o)
  last_is = ends-borne (stamp_of o) (take i (in_order h)) (ordered-take i (in_order h) (ordered h)) low

  parts : in_order h ≡ take i (in_order h) ++ o ∷ drop (i + 1) (in_order h)
  parts =
      let next : suc i ≡ i + 1 = omega arith in
      sym (take-append-drop i (in_order h)) ∙ ap (λ l. take i (in_order h) ++ l) (subst (λ k. drop i (in_order h) ≡ get_or (in_order h) i d ∷ drop k (in_order h)) next (drop-cons (in_order h) i d lt) ∙ ap (λ p. p ∷ drop (i + 1) (in_order h)) at)

  behind : Each (λ p. before (stamp_of p) (stamp_of o) ≡ false) (drop (i + 1) (in_order h))
  behind = each-from_among (λ p. before (stamp_of p) (stamp_of o) ≡ false) (drop (i + 1) (in_order h))
      (λ p m. subst (λ q. before (stamp_of p) (stamp_of q) ≡ false) at (from-place (in_order h) i d p (ordered h)
      (let next : suc i ≡ i + 1 = omega arith in subst (Among p) (sym (subst (λ k. drop i (in_order h) ≡ get_or (in_order h) i d ∷ drop k (in_order h)) next (drop-cons (in_order h) i d lt))) (inr m))))

  next_is : begins_with (drop (i + 1) (in_order h)) (stamp_of o) ≡ is_borne (drop (i + 1) (in_order h)) (stamp_of o)
  next_is = begins-borne (stamp_of o) (drop (i + 1) (in_order h)) (ordered-drop (i + 1) (in_order h) (ordered h)) behind

  -- its neighbours tell whether it is clear
  clear_is : is_clear (in_order h) (stamp_of o) ≡ not (ends_with (take i (in_order h)) (stamp_of o) || begins_with (drop (i + 1) (in_order h)) (stamp_of o))
  clear_is =
      ap (λ l. is_clear l (stamp_of o)) parts ∙ clear-between (take i (in_order h)) (drop (i + 1) (in_order h)) o
      ∙ ap (λ b. not (b || is_borne (drop (i + 1) (in_order h)) (stamp_of o))) (sym last_is)
      ∙ ap (λ b. not (ends_with (take i (in_order h)) (stamp_of o) || b)) (sym next_is)

  clear_alone : ends_with (take i (in_order h)) (stamp_of o) ≡ false → begins_with (drop (i + 1) (in_order h)) (stamp_of o) ≡ false → is_clear (in_order h) (stamp_of o) ≡ true
  clear_alone e b = clear_is ∙ ap (λ c. not (c || begins_with (drop (i + 1) (in_order h)) (stamp_of o))) e ∙ ap not b

  forked_before : ends_with (take i (in_order h)) (stamp_of o) ≡ true → is_clear (in_order h) (stamp_of o) ≡ false
  forked_before e = clear_is ∙ ap (λ c. not (c || begins_with (drop (i + 1) (in_order h)) (stamp_of o))) e

  forked_behind : begins_with (drop (i + 1) (in_order h)) (stamp_of o) ≡ true → is_clear (in_order h) (stamp_of o) ≡ false
  forked_behind b = clear_is ∙ ap (λ c. not (ends_with (take i (in_order h)) (stamp_of o) || c)) b ∙ ap not (or-true (ends_with (take i (in_order h)) (stamp_of o)))

  -- what hangs on it
  no_insert : (p : Op) → p ≡ o → is_clear (in_order h) (stamp_of p) ≡ true → ((x : Insertion) → insertion p ≡ Some x → ⊥) → kind_at (in_order h) (stamp_of p) ≡ Some Void
  no_insert p e c none = kind_void (in_order h) p (subst IsLawful (sym e) own) (subst (λ q. Among q (in_order h)) (sym e) here) (λ x m. by_cases (same x.stamp (stamp_of p))
      (λ k. let r = clear-insert_op (in_order h) x m in
      let same_op : p ≡ r.0 = clear_one (in_order h) (stamp_of p) c p r.0 (subst (λ q. Among q (in_order h)) (sym e) here) r.1 (same-refl (stamp_of p))
      (same-from (stamp_of r.0) (stamp_of p) (insert_stamp r.0 x r.3 ∙ same-true x.stamp (stamp_of p) k)) in
      absurd (none x (ap insertion same_op ∙ r.3)))
      (λ k. k))

  hangs-clear : (p : Op) → p ≡ o → is_clear (in_order h) (stamp_of p) ≡ true → kind_at (in_order h) (stamp_of p) ≡ hanging_on p (fault_of (in_order h) p)
  hangs-clear (Insert s p y) e c =
      let x : Insertion = record { stamp = s; parent = p; symbol = y } in
      ap (fault_of_end (in_order h)) (on h lawful x (insert_from_op h x (held_among h (Insert s p y) (subst (λ q. Among q (in_order h)) (sym e) here), c)))
  hangs-clear (Delete s t) e c = no_insert (Delete s t) e c (λ x i. cc)
  hangs-clear (Set s k v) e c = no_insert (Set s k v) e c (λ x i. cc)

  hangs-other : is_clear (in_order h) (stamp_of o) ≡ false → kind_at (in_order h) (stamp_of o) ≡ Some Void
  hangs-other c = kind_void (in_order h) o own here (λ x m. by_cases (same x.stamp (stamp_of o))
      (λ e. let r = clear-insert_op (in_order h) x m in
      absurd (true≢false (sym r.2 ∙ ap (is_clear (in_order h)) (insert_stamp r.0 x r.3 ∙ same-true x.stamp (stamp_of o) e) ∙ c)))
      (λ e. e))

  hanging-more : (k : Option FaultKind) → kind_at (in_order h) (stamp_of o) ≡ k → ways_before (in_order h) (i + 1) ≡ ways_before (in_order h) i ++ k ∷ []
  hanging-more k e =
      ap (map (λ op. kind_at (in_order h) (stamp_of op))) took
      ∙ map-append (λ op. kind_at (in_order h) (stamp_of op)) (take i (in_order h)) (o ∷ [])
      ∙ ap (λ r. ways_before (in_order h) i ++ r ∷ []) e

  pub reported-clear : (hanging : List (Option FaultKind)) (faults : List CopyFault) → AreReported (in_order h) i hanging faults → ends_with (take i (in_order h)) (stamp_of o) ≡ false
      → begins_with (drop (i + 1) (in_order h)) (stamp_of o) ≡ false
      → AreReported (in_order h) (i + 1) (hanging ++ hanging_on o (fault_of (in_order h) o) ∷ []) (faults ++ cons_option (marked (stamp_of o) (fault_of (in_order h) o)) [])
  reported-clear hanging faults reported e b = let c = clear_alone e b in record {
    hanging_are = ap (λ l. l ++ hanging_on o (fault_of (in_order h) o) ∷ []) reported.hanging_are ∙ sym (hanging-more (hanging_on o (fault_of (in_order h) o)) (hangs-clear o refl c));
    faults_are = ap (λ l. l ++ cons_option (marked (stamp_of o) (fault_of (in_order h) o)) []) reported.faults_are ∙ sym (faults-new (fault_of (in_order h) o) (clear-new c) (bearing_one (in_order h) o c here));
  }

  pub reported-known : (hanging : List (Option FaultKind)) (faults : List CopyFault) → AreReported (in_order h) i hanging faults → ends_with (take i (in_order h)) (stamp_of o) ≡ true
      → AreReported (in_order h) (i + 1) (hanging ++ Some Void ∷ []) faults
  reported-known hanging faults reported e = record {
    hanging_are = ap (λ l. l ++ Some Void ∷ []) reported.hanging_are ∙ sym (hanging-more (Some Void) (hangs-other (forked_before e)));
    faults_are = reported.faults_are ∙ sym (faults-old (sym last_is ∙ e));
  }

  pub reported-forked : (hanging : List (Option FaultKind)) (faults : List CopyFault) → AreReported (in_order h) i hanging faults → ends_with (take i (in_order h)) (stamp_of o) ≡ false
      → begins_with (drop (i + 1) (in_order h)) (stamp_of o) ≡ true
      → AreReported (in_order h) (i + 1) (hanging ++ Some Void ∷ []) (faults ++ cons_option (marked (stamp_of o) (Some Forked)) [])
  reported-forked hanging faults reported e b = record {
    hanging_are = ap (λ l. l ++ Some Void ∷ []) reported.hanging_are ∙ sym (hanging-more (Some Void) (hangs-other (forked_behind b)));
    faults_are = ap (λ l. l ++ cons_option (marked (stamp_of o) (Some Forked)) []) reported.faults_are ∙ sym (faults-new (Some Forked) (sym last_is ∙ e) (bearing_more (in_order h) o (forked_behind b) here));
  }

pub reported-all : (ops : List Op) (i : ℕ) (hanging : List (Option FaultKind)) (faults : List CopyFault) → length ops ≤ i → AreReported ops i hanging faults → faults ≡ copy_faults ops
unfolding copy_faults
reported-all ops i hanging faults le reported = reported.faults_are ∙ ap (λ l. filter_map (λ s. marked s (fault_at ops s)) (stamps l)) (take_all i ops le)

-- ---- the steps of the pass

-- what holds of each set in order
abbrev Each_set : (List Op → Type 0) → Type 0
Each_set P = (h : OpSet) → AllLawful h → P (in_order h)

in_each : (P : List Op → Type 0) → Each_set P → (ops : List Op) → IsInOrder ops → P ops
in_each P all ops o = subst P (sym o.is) (all o.set o.lawful)

pub head_of : (ops : List Op) → IsInOrder ops → (t : Stamp) → is_head t ≡ true → None ≡ kind_at ops t
head_of = in_each (λ ops. (t : Stamp) → is_head t ≡ true → None ≡ kind_at ops t) kind_head

pub order_of : (ops : List Op) → IsInOrder ops → IsOrdered ops
order_of = in_each IsOrdered (λ h lawful. ordered h)

pub before_of : (ops : List Op) → IsInOrder ops → (i : ℕ) (d : Op) → i < length ops → (t : Stamp) → target_of (get_or ops i d) ≡ Some t → AreBefore ops t i
before_of = in_each (λ ops. (i : ℕ) (d : Op) → i < length ops → (t : Stamp) → target_of (get_or ops i d) ≡ Some t → AreBefore ops t i)
    (λ h lawful i d lt. target_before h lawful i d (get_or (in_order h) i d) lt refl)

pub clear_of : (ops : List Op) → IsInOrder ops → (i : ℕ) (d : Op) → i < length ops → (hanging : List (Option FaultKind)) (faults : List CopyFault) → AreReported ops i hanging faults
    → ends_with (take i ops) (stamp_of (get_or ops i d)) ≡ false → begins_with (drop (i + 1) ops) (stamp_of (get_or ops i d)) ≡ false
    → AreReported ops (i + 1) (hanging ++ hanging_on (get_or ops i d) (fault_of ops (get_or ops i d)) ∷ []) (faults ++ cons_option (marked (stamp_of (get_or ops i d)) (fault_of ops (get_or ops i d))) [])
clear_of = in_each (λ ops. (i : ℕ) (d : Op) → i < length ops → (hanging : List (Option FaultKind)) (faults : List CopyFault) → AreReported ops i hanging faults
    → ends_with (take i ops) (stamp_of (get_or ops i d)) ≡ false → begins_with (drop (i + 1) ops) (stamp_of (get_or ops i d)) ≡ false
    → AreReported ops (i + 1) (hanging ++ hanging_on (get_or ops i d) (fault_of ops (get_or ops i d)) ∷ []) (faults ++ cons_option (marked (stamp_of (get_or ops i d)) (fault_of ops (get_or ops i d))) []))
    (λ h lawful i d lt. reported-clear h lawful i d (get_or (in_order h) i d) lt refl)

pub known_of : (ops : List Op) → IsInOrder ops → (i : ℕ) (d : Op) → i < length ops → (hanging : List (Option FaultKind)) (faults : List CopyFault) → AreReported ops i hanging faults
    → ends_with (take i ops) (stamp_of (get_or ops i d)) ≡ true → AreReported ops (i + 1) (hanging ++ Some Void ∷ []) faults
known_of = in_each (λ ops. (i : ℕ) (d : Op) → i < length ops → (hanging : List (Option FaultKind)) (faults : List CopyFault) → AreReported ops i hanging faults
    → ends_with (take i ops) (stamp_of (get_or ops i d)) ≡ true → AreReported ops (i + 1) (hanging ++ Some Void ∷ []) faults)
    (λ h lawful i d lt. reported-known h lawful i d (get_or (in_order h) i d) lt refl)

pub forked_of : (ops : List Op) → IsInOrder ops → (i : ℕ) (d : Op) → i < length ops → (hanging : List (Option FaultKind)) (faults : List CopyFault) → AreReported ops i hanging faults
    → ends_with (take i ops) (stamp_of (get_or ops i d)) ≡ false → begins_with (drop (i + 1) ops) (stamp_of (get_or ops i d)) ≡ true
    → AreReported ops (i + 1) (hanging ++ Some Void ∷ []) (faults ++ cons_option (marked (stamp_of (get_or ops i d)) (Some Forked)) [])
forked_of = in_each (λ ops. (i : ℕ) (d : Op) → i < length ops → (hanging : List (Option FaultKind)) (faults : List CopyFault) → AreReported ops i hanging faults
    → ends_with (take i ops) (stamp_of (get_or ops i d)) ≡ false → begins_with (drop (i + 1) ops) (stamp_of (get_or ops i d)) ≡ true
    → AreReported ops (i + 1) (hanging ++ Some Void ∷ []) (faults ++ cons_option (marked (stamp_of (get_or ops i d)) (Some Forked)) []))
    (λ h lawful i d lt. reported-forked h lawful i d (get_or (in_order h) i d) lt refl)

-- so many of the first operations have what hangs on them
hanging-many : (ops : List Op) (i : ℕ) (hanging : List (Option FaultKind)) → i ≤ length ops → hanging ≡ ways_before ops i → length hanging ≡ i
hanging-many ops i hanging le e = ap length e ∙ length-map (take i ops) (λ op. kind_at ops (stamp_of op)) ∙ length-take-le i ops le

pub hanging_is : (ops : List Op) (hanging : List (Option FaultKind)) (t : Stamp) (k : ℕ) (r : Option FaultKind) → hanging ≡ ways_before ops (length hanging) → k < length hanging → IsBearer ops t k
    → get_or hanging k r ≡ kind_at ops t
hanging_is ops hanging t k r e lt b =
    ap (λ l. get_or l k r) e ∙ hanging_at (λ op. kind_at ops (stamp_of op)) ops (length hanging) k r none lt b.within ∙ ap (kind_at ops) (b.bears none)
  where
    none : Op
    none = Delete head head

module _ (ops : List Op) (order : IsInOrder ops) (i : ℕ) (d : Op) (lt : i < length ops) (hanging : List (Option FaultKind)) (faults : List CopyFault) (reported : AreReported ops i hanging faults) where
  pub before_in : (hs : List (Option FaultKind)) → hs ≡ hanging → (t : Stamp) → target_of (get_or ops i d) ≡ Some t → AreBefore ops t (length hs)
  before_in hs e t is =
      let le : i ≤ length ops = omega arith in
      subst (AreBefore ops t) (sym (ap length e ∙ hanging-many ops i hanging le reported.hanging_are)) (before_of ops order i d lt t is)

  pub step_known : (r : Result (Unit {0}) NoMemory) (s : Stamp) (then : List (Option FaultKind)) → s ≡ stamp_of (get_or ops i d) → ends_with (take i ops) s ≡ true
      → OnOk r (then ≡ hanging ++ Some Void ∷ []) → OnOk r (AreReported ops (i + 1) then faults)
  step_known (Ok u) s then is e n =
      subst (λ l. AreReported ops (i + 1) l faults) (sym n) (known_of ops order i d lt hanging faults reported (ap (ends_with (take i ops)) (sym is) ∙ e))
  step_known (Err x) s then is e n = tt

  pub step_forked : (r : Result (Unit {0}) NoMemory) (s : Stamp) (then : List (Option FaultKind)) (more : List CopyFault) → s ≡ stamp_of (get_or ops i d) → ends_with (take i ops) s ≡ false
      → begins_with (drop (i + 1) ops) s ≡ true → more ≡ faults ++ cons_option (marked s (Some Forked)) [] → OnOk r (then ≡ hanging ++ Some Void ∷ []) → OnOk r (AreReported ops (i + 1) then more)
  step_forked (Ok u) s then more is e b f n =
      subst (λ l. AreReported ops (i + 1) l more) (sym n) (subst (AreReported ops (i + 1) (hanging ++ Some Void ∷ [])) (sym (f ∙ ap (λ t. faults ++ cons_option (marked t (Some Forked)) []) is))
      (forked_of ops order i d lt hanging faults reported (ap (ends_with (take i ops)) (sym is) ∙ e) (ap (begins_with (drop (i + 1) ops)) (sym is) ∙ b)))
  step_forked (Err x) s then more is e b f n = tt

  pub step_clear : (r : Result (Unit {0}) NoMemory) (s : Stamp) (kind hung : Option FaultKind) (then : List (Option FaultKind)) (more : List CopyFault) → s ≡ stamp_of (get_or ops i d)
      → ends_with (take i ops) s ≡ false → begins_with (drop (i + 1) ops) s ≡ false → kind ≡ fault_of ops (get_or ops i d) → hung ≡ hanging_on (get_or ops i d) kind
      → more ≡ faults ++ cons_option (marked s kind) [] → OnOk r (then ≡ hanging ++ hung ∷ []) → OnOk r (AreReported ops (i + 1) then more)
  step_clear (Ok u) s kind hung then more is e b k h f n =
      subst (λ l. AreReported ops (i + 1) l more) (sym (n ∙ ap (λ r. hanging ++ r ∷ []) (h ∙ ap (hanging_on (get_or ops i d)) k)))
      (subst (AreReported ops (i + 1) (hanging ++ hanging_on (get_or ops i d) (fault_of ops (get_or ops i d)) ∷ []))
      (sym (f ∙ ap (λ t. faults ++ cons_option (marked t kind) []) is ∙ ap (λ r. faults ++ cons_option (marked (stamp_of (get_or ops i d)) r) []) k))
      (clear_of ops order i d lt hanging faults reported (ap (ends_with (take i ops)) (sym is) ∙ e) (ap (begins_with (drop (i + 1) ops)) (sym is) ∙ b)))
  step_clear (Err x) s kind hung then more is e b k h f n = tt
