-- The inserts of a set of lawful operations: in order, and alike in a larger set.
use Rattle.std.proofs.Common.{◌≡◌, ◌<◌, Bool, true, false, not, cond, ◌||◌, T, List, [], ◌∷◌, map, refl, sym, ap, ◌∙◌, subst, subst₂, inl, inr, Some, None, Option, arith}
use Rattle.std.specs.List.{filter, filter_map, list_any, cons_option}
use Rattle.std.specs.Option.{unwrap_or}
use Rattle.std.specs.Ordering.{ordering_then, is_eq, is_lt, eq_by_cmp, nat_cmp}
use Rattle.std.specs.Cmp.Lexicographic.{slice_cmp}
use Rattle.std.specs.Cmp.{first_so, second_so}
use Rattle.std.proofs.lemmas.Cmp.{tied_itself}
use Rattle.std.proofs.lemmas.Bool.Decides.{nat_tests}
use Rattle.std.proofs.lemmas.Bool.{true≢false}
use Rattle.std.specs.FinMap as fin
use Rattle.std.specs.FinMap.Entries.{is_sorted, below_all}
use Rattle.std.specs.declared.cmp.Ordering.{Ordering}
use Rattle.std.specs.declared.cmp.Ordering.TheVariants.{Less, Equal, Greater}
use Rattle.std.proofs.Math.Bool.{or-true}
use Rattle.desk_ops.specs.declared.op.Stamp.{Stamp}
use Rattle.desk_ops.specs.declared.op.Op.{Op}
use Rattle.desk_ops.specs.declared.op.Op.TheVariants.{Insert, Delete, Set}
use Rattle.desk_ops.specs.Op.{Insertion, stamp_of, IsLawful, insertion}
use Rattle.desk_ops.specs.Stamp.{stamp_cmp, same, before, head, IsStamp}
use Rattle.desk_ops.specs.Order.{op_cmp, rest_of}
use Rattle.desk_ops.specs.OpSet.{OpSet, in_order, IsWithin}
use Rattle.desk_ops.specs.Scan.{IsAscending}
use Rattle.desk_ops.specs.Held.{bearing, is_one, is_clear, clear_ops, clear_inserts, is_live, live_inserts}
use Rattle.desk_ops.specs.Walk.{walk}
use Rattle.desk_ops.specs.Shown.{is_deleted, shown}
use Rattle.desk_ops.specs.Lists.{Among, Precedes}
use Rattle.desk_ops.proofs.Lists.{Each, each-among, each-from_among, among-filter, among-filter_from, among-filter_map, each-filter, precedes-filter, precedes-filter_from}
use Rattle.desk_ops.proofs.Stamps.{stamp_tied, same-refl, same-from, by_cases, is_less, is_equal}
use Rattle.desk_ops.specs.OrderLaws.{op_total, op_antisymmetric}
use Rattle.desk_ops.proofs.Kept.{Agree, Grows, order-kept}

-- ---- a set in order

abbrev pub IsOrdered : List Op → Type 0
IsOrdered [] = Unit {0}
IsOrdered (o ∷ os) = Each (λ p. op_cmp o p ≡ Less) os × IsOrdered os

pub of-T : (b : Bool) → T b → b ≡ true
of-T true t = refl
of-T false t = absurd t

ordered_below : (o : Op) (es : List (Op × Unit {0})) → below_all op_cmp o es ≡ true → Each (λ p. op_cmp o p ≡ Less) (map (λ (e : Op × Unit {0}). e.0) es)
ordered_below o [] h = tt
ordered_below o (e ∷ es) h = (is_less (op_cmp o e.0) (first_so (is_lt (op_cmp o e.0)) (below_all op_cmp o es) h), ordered_below o es (second_so (is_lt (op_cmp o e.0)) (below_all op_cmp o es) h))

pub ordered_entries : (es : List (Op × Unit {0})) → is_sorted op_cmp es ≡ true → IsOrdered (map (λ (e : Op × Unit {0}). e.0) es)
ordered_entries [] h = tt
ordered_entries (e ∷ es) h = (ordered_below e.0 es (first_so (below_all op_cmp e.0 es) (is_sorted op_cmp es) h), ordered_entries es (second_so (below_all op_cmp e.0 es) (is_sorted op_cmp es) h))

pub ordered : (h : OpSet) → IsOrdered (in_order h)
ordered h = ordered_entries (fin.entries h) (of-T (is_sorted op_cmp (fin.entries h)) (fin.entries_sorted h))

pub among-any : (q : Op) (os : List Op) → Among q os → list_any (eq_by_cmp op_cmp q) os ≡ true
among-any q [] m = absurd m
among-any q (o ∷ os) (inl e) = ap (λ b. b || list_any (eq_by_cmp op_cmp q) os) (ap is_eq (ap (op_cmp q) e ∙ tied_itself op_total q))
among-any q (o ∷ os) (inr m) = ap (λ b. eq_by_cmp op_cmp q o || b) (among-any q os m) ∙ or-true (eq_by_cmp op_cmp q o)

pub any-among : (q : Op) (os : List Op) → list_any (eq_by_cmp op_cmp q) os ≡ true → Among q os
any-among q [] h = absurd (true≢false (sym h))
any-among q (o ∷ os) h =
    by_cases (eq_by_cmp op_cmp q o)
    (λ e. inl (sym (op_antisymmetric q o (is_equal (op_cmp q o) e))))
    (λ e. inr (any-among q os (sym (ap (λ b. b || list_any (eq_by_cmp op_cmp q) os) e) ∙ h)))

pub within : (h g : OpSet) → IsWithin h g → (o : Op) → Among o (in_order h) → Among o (in_order g)
within h g w o m = any-among o (in_order g) (sym (fin.contains_key-keys g o) ∙ w o (fin.contains_key-keys h o ∙ among-any o (in_order h) m))

-- ---- clear

one_of : (os : List Op) → is_one os ≡ true → (o p : Op) → Among o os → Among p os → o ≡ p
one_of [] h o p m n = absurd m
one_of (x ∷ []) h o p (inl e) (inl f) = sym e ∙ f
one_of (x ∷ []) h o p (inl e) (inr n) = absurd n
one_of (x ∷ []) h o p (inr m) n = absurd m
one_of (x ∷ y ∷ os) h o p m n = absurd (true≢false (sym h))

pub clear_one : (ops : List Op) (s : Stamp) → is_clear ops s ≡ true → (o p : Op) → Among o ops → Among p ops → same (stamp_of o) s ≡ true → same (stamp_of p) s ≡ true → o ≡ p
unfolding is_clear
clear_one ops s h o p m n e f = one_of (bearing ops s) h o p (among-filter_from (λ o. same (stamp_of o) s) ops o m e) (among-filter_from (λ o. same (stamp_of o) s) ops p n f)

-- an insert of the clear ones is an operation that is clear
pub record IsClearInsert (ops : List Op) (x : Insertion) : Type 0 where
  pub op : Op
  pub held : Among op ops
  pub clear : is_clear ops (stamp_of op) ≡ true
  pub is : insertion op ≡ Some x

pub clear_insert : (ops : List Op) (x : Insertion) → Among x (clear_inserts ops) → IsClearInsert ops x
unfolding clear_inserts clear_ops
clear_insert ops x m =
    let r = among-filter_map insertion (filter (λ o. is_clear ops (stamp_of o)) ops) x m in
    let q = among-filter (λ o. is_clear ops (stamp_of o)) ops r.0 r.1 in
    record { op = r.0; held = q.0; clear = q.1; is = r.2 }

pub some-same : (x y : Insertion) → Some x ≡ Some y → x ≡ y
some-same x y e = ap (λ o. unwrap_or o x) e

pub insert_stamp : (o : Op) (x : Insertion) → insertion o ≡ Some x → stamp_of o ≡ x.stamp
insert_stamp (Insert s p y) x e = ap (λ o. (unwrap_or o x).stamp) e
insert_stamp (Delete s t) x e = cc
insert_stamp (Set s k v) x e = cc

pub insert_parent : (P : Stamp → Stamp → Type 0) (o : Op) (x : Insertion) → insertion o ≡ Some x → IsLawful o → ((s p : Stamp) → IsStamp s → p.counter < s.counter → P p s) → P x.parent x.stamp
insert_parent P (Insert s p y) x e l f = subst (λ (x : Insertion). P x.parent x.stamp) (ap (λ o. unwrap_or o x) e) (f s p l.0 l.2)
insert_parent P (Delete s t) x e l f = absurd (cc)
insert_parent P (Set s k v) x e l f = absurd (cc)

pub counter-before : (p s : Stamp) → p.counter < s.counter → before p s ≡ true
unfolding before stamp_cmp
counter-before p s h = grind (arith, nat_tests)

pub not-head : (s : Stamp) → IsStamp s → same s head ≡ false
unfolding same stamp_cmp
not-head s h = grind (arith, nat_tests)

-- ---- in order

pub then-then : (r t u : Ordering) → ordering_then (ordering_then r t) u ≡ ordering_then r (ordering_then t u)
then-then Less t u = refl
then-then Equal t u = refl
then-then Greater t u = refl

-- by stamp, and then by the rest
pub by_stamp : (o p : Op) → op_cmp o p ≡ ordering_then (stamp_cmp (stamp_of o) (stamp_of p)) (slice_cmp nat_cmp (rest_of o) (rest_of p))
unfolding stamp_cmp
by_stamp o p = sym (then-then (nat_cmp (stamp_of o).counter (stamp_of p).counter) (nat_cmp (stamp_of o).site (stamp_of p).site) (slice_cmp nat_cmp (rest_of o) (rest_of p)))

pub clear_apart : (all : List Op) (o p : Op) → is_clear all (stamp_of o) ≡ true → Among o all → Among p all → op_cmp o p ≡ Less → stamp_cmp (stamp_of o) (stamp_of p) ≡ Less
clear_apart all o p c m n l = go (stamp_cmp (stamp_of o) (stamp_of p)) refl (sym (by_stamp o p) ∙ l)
  where
    go : (r : Ordering) → stamp_cmp (stamp_of o) (stamp_of p) ≡ r → ordering_then r (slice_cmp nat_cmp (rest_of o) (rest_of p)) ≡ Less → r ≡ Less
    go Less e l = refl
    go Equal e k = absurd (true≢false (sym (ap is_lt l) ∙ ap is_lt (ap (op_cmp o) (sym (clear_one all (stamp_of o) c o p m n (same-refl (stamp_of o)) (same-from (stamp_of p) (stamp_of o) (sym (stamp_tied (stamp_of o) (stamp_of p) e))))) ∙ tied_itself op_total o)))
    go Greater e l = absurd (true≢false (sym (ap is_lt l)))

pub before-less : (a b : Stamp) → stamp_cmp a b ≡ Less → before a b ≡ true
unfolding before
before-less a b e = ap is_lt e

ascending_clear : (all ops : List Op) → ((o : Op) → Among o ops → Among o all) → IsOrdered ops → IsAscending (filter_map insertion (filter (λ o. is_clear all (stamp_of o)) ops))
ascending_clear all [] sub up = tt
ascending_clear all (o ∷ os) sub up =
    elim (is_clear all (stamp_of o)) as (λ b. is_clear all (stamp_of o) ≡ b → IsAscending (filter_map insertion (cond b (o ∷ filter (λ o. is_clear all (stamp_of o)) os) (filter (λ o. is_clear all (stamp_of o)) os)))) [
      | true ↦ λ c. kept (ascending_clear all os (λ p m. sub p (inr m)) up.1) c (insertion o) refl
      | false ↦ λ c. ascending_clear all os (λ p m. sub p (inr m)) up.1
    ] refl
  where
    rest : List Insertion
    rest = filter_map insertion (filter (λ o. is_clear all (stamp_of o)) os)

    kept : IsAscending rest → is_clear all (stamp_of o) ≡ true → (r : Option Insertion) → insertion o ≡ r → IsAscending (cons_option r rest)
    kept h c None e = h
    kept h c (Some x) e = (each-from_among (λ y. before x.stamp y.stamp ≡ true) rest (λ y m. later y (among-filter_map insertion (filter (λ o. is_clear all (stamp_of o)) os) y m)), h)
      where
        later : (y : Insertion) → ((p : Op) × Among p (filter (λ o. is_clear all (stamp_of o)) os) × (insertion p ≡ Some y)) → before x.stamp y.stamp ≡ true
        later y r =
            let q : Among r.0 os × (is_clear all (stamp_of r.0) ≡ true) = among-filter (λ o. is_clear all (stamp_of o)) os r.0 r.1 in
            subst₂ (λ a b. before a b ≡ true) (insert_stamp o x e) (insert_stamp r.0 y r.2)
            (before-less (stamp_of o) (stamp_of r.0) (clear_apart all o r.0 c (sub o (inl refl)) (sub r.0 (inr q.0)) (each-among (λ p. op_cmp o p ≡ Less) os r.0 up.0 q.0)))

pub ascending_filter : (f : Insertion → Bool) (xs : List Insertion) → IsAscending xs → IsAscending (filter f xs)
ascending_filter f [] up = tt
ascending_filter f (x ∷ xs) up = elim (f x) as (λ b. IsAscending (cond b (x ∷ filter f xs) (filter f xs))) [
  | true ↦ (each-filter (λ y. before x.stamp y.stamp ≡ true) f xs up.0, ascending_filter f xs up.1)
  | false ↦ ascending_filter f xs up.1
]

pub clear_ascending : (h : OpSet) → IsAscending (clear_inserts (in_order h))
unfolding clear_inserts clear_ops
clear_ascending h = ascending_clear (in_order h) (in_order h) (λ o m. m) (ordered h)

pub live_ascending : (h : OpSet) → IsAscending (live_inserts (in_order h))
unfolding live_inserts
live_ascending h = ascending_filter (λ x. is_live (in_order h) x.parent) (clear_inserts (in_order h)) (clear_ascending h)

pub live-parts : (ops : List Op) (x : Insertion) → Among x (live_inserts ops) → Among x (clear_inserts ops) × (is_live ops x.parent ≡ true)
unfolding live_inserts
live-parts ops x m = among-filter (λ x. is_live ops x.parent) (clear_inserts ops) x m

live_clear : (ops : List Op) (x : Insertion) → Among x (live_inserts ops) → IsClearInsert ops x
unfolding live_inserts
live_clear ops x m = clear_insert ops x (among-filter (λ x. is_live ops x.parent) (clear_inserts ops) x m).0

pub clear_grows : (ops : List Op) → Each IsLawful ops → Grows (clear_inserts ops)
clear_grows ops l = (
  each-from_among (λ x. before x.parent x.stamp ≡ true) (clear_inserts ops) (λ x m. one x (clear_insert ops x m)),
  each-from_among (λ x. same x.stamp head ≡ false) (clear_inserts ops) (λ x m. two x (clear_insert ops x m)),
)
  where
    one : (x : Insertion) → IsClearInsert ops x → before x.parent x.stamp ≡ true
    one x c = insert_parent (λ p s. before p s ≡ true) c.op x c.is (each-among IsLawful ops c.op l c.held) (λ s p _ h. counter-before p s h)

    two : (x : Insertion) → IsClearInsert ops x → same x.stamp head ≡ false
    two x c = insert_parent (λ p s. same s head ≡ false) c.op x c.is (each-among IsLawful ops c.op l c.held) (λ s p h _. not-head s h)

pub live_grows : (ops : List Op) → Each IsLawful ops → Grows (live_inserts ops)
live_grows ops l = (
  each-from_among (λ x. before x.parent x.stamp ≡ true) (live_inserts ops) (λ x m. one x (live_clear ops x m)),
  each-from_among (λ x. same x.stamp head ≡ false) (live_inserts ops) (λ x m. two x (live_clear ops x m)),
)
  where
    one : (x : Insertion) → IsClearInsert ops x → before x.parent x.stamp ≡ true
    one x c = insert_parent (λ p s. before p s ≡ true) c.op x c.is (each-among IsLawful ops c.op l c.held) (λ s p _ h. counter-before p s h)

    two : (x : Insertion) → IsClearInsert ops x → same x.stamp head ≡ false
    two x c = insert_parent (λ p s. same s head ≡ false) c.op x c.is (each-among IsLawful ops c.op l c.held) (λ s p h _. not-head s h)

pub live_agree : (h g : OpSet) → IsWithin h g → Agree (live_inserts (in_order h)) (live_inserts (in_order g))
live_agree h g w d e m n k = go (live_clear (in_order h) d m) (live_clear (in_order g) e n)
  where
    go : IsClearInsert (in_order h) d → IsClearInsert (in_order g) e → d ≡ e
    go a b = some-same d e (sym a.is ∙ ap insertion one ∙ b.is)
      where
        tie : same (stamp_of a.op) (stamp_of b.op) ≡ true
        tie = subst₂ (λ s t. same s t ≡ true) (sym (insert_stamp a.op d a.is)) (sym (insert_stamp b.op e b.is)) k

        one : a.op ≡ b.op
        one = clear_one (in_order g) (stamp_of b.op) b.clear a.op b.op (within h g w a.op a.held) b.held tie (same-refl (stamp_of b.op))

-- elements that are shown before and after stand in one order
pub shown-kept : (h g : OpSet) → IsWithin h g → Each IsLawful (in_order g) → Each IsLawful (in_order h) → (x y : Insertion)
    → Precedes x y (shown (in_order h)) → Among x (shown (in_order g)) → Among y (shown (in_order g)) → Precedes x y (shown (in_order g))
unfolding shown walk
shown-kept h g w lg lh x y b mx my =
    precedes-filter_from (λ x. not (is_deleted (in_order g) x.stamp)) (walk (in_order g)) x y
    (order-kept (live_inserts (in_order h)) (live_inserts (in_order g)) (live_ascending h) (live_ascending g) (live_grows (in_order h) lh) (live_grows (in_order g) lg) (live_agree h g w) x y
    (precedes-filter (λ x. not (is_deleted (in_order h) x.stamp)) (walk (in_order h)) x y b) ix.0 iy.0)
    ix.1 iy.1
  where
    ix : Among x (walk (in_order g)) × (not (is_deleted (in_order g) x.stamp) ≡ true)
    ix = among-filter (λ x. not (is_deleted (in_order g) x.stamp)) (walk (in_order g)) x mx

    iy : Among y (walk (in_order g)) × (not (is_deleted (in_order g) y.stamp) ≡ true)
    iy = among-filter (λ x. not (is_deleted (in_order g) x.stamp)) (walk (in_order g)) y my
