-- The set of a list of waiting operations.
use Rattle.std.proofs.Common.{◌≡◌, ℕ, zero, suc, ◌+◌, ◌<◌, ◌⊎◌, inl, inr, ◌||◌, Bool, true, false, cond, List, [], ◌∷◌, map, length, take, get_or, refl, sym, ap, ◌∙◌, arith, All}
use Rattle.std.specs.List.{insert, remove, filter, list_any, AllByRecursion}
use Rattle.std.specs.FinMap as fin
use Rattle.std.specs.FinMap.Entries.{by_order}
use Rattle.std.specs.Ordering.{is_lt, is_eq, eq_by_cmp}
use Rattle.std.specs.declared.cmp.Ordering.{Ordering}
use Rattle.std.specs.declared.cmp.Ordering.TheVariants.{Less, Equal, Greater}
use Rattle.std.proofs.lemmas.Bool.{true≢false, or_parts}
use Rattle.std.proofs.lemmas.Cmp.{tied_itself}
use Rattle.desk_ops.specs.declared.op.Stamp.{Stamp}
use Rattle.desk_ops.specs.declared.op.Op.{Op}
use Rattle.desk_ops.specs.Order.{op_cmp}
use Rattle.desk_ops.specs.OrderLaws.{op_total, op_antisymmetric}
use Rattle.desk_ops.specs.OpSet.{OpSet, no_ops, has_op, with_op, with_all, in_order, size}
use Rattle.desk_ops.specs.Lists.{Among}
use Rattle.desk_ops.proofs.Stamps.{by_cases, is_equal}
use Rattle.desk_ops.proofs.Lists.{Each-weaker, each-among}
use Rattle.desk_ops.proofs.Tree.{filter-hit, filter-miss}
use Rattle.desk_ops.proofs.OpSets.{with_op-known, none-held}
use Rattle.desk_ops.proofs.Unions.{has_op-with_op, with_op-comm, size-with_op, with_all-take, same-set, has_op-with_all}
use Rattle.desk_ops.proofs.Ends.{held_among}
use Rattle.std.specs.List.Sorted.{IsPermutation}
use Rattle.std.proofs.lemmas.List.Sorted.{list_any-IsPermutation, All-permutation}
use Rattle.std.proofs.Math.Bool.{or-false}
use Rattle.desk_ops.specs.Op.{IsLawful}
use Rattle.desk_walk.specs.Waiting.{waits_for, waiting_at, HasTarget}
use Rattle.desk_walk.specs.Turn.{turn_cmp, IsInTurn, set_of, IsKept}
use Rattle.desk_walk.proofs.Turns.{apart-left}

pub set-insert : (xs : List Op) (i : ℕ) (x : Op) → set_of (insert xs i x) ≡ with_op (set_of xs) x
set-insert xs zero x = refl
set-insert [] (suc i) x = refl
set-insert (y ∷ ys) (suc i) x = ap (λ (s : OpSet). with_op s y) (set-insert ys i x) ∙ with_op-comm (set_of ys) x y

pub set-remove : (xs : List Op) (i : ℕ) (d : Op) → i < length xs → set_of xs ≡ with_op (set_of (remove xs i)) (get_or xs i d)
set-remove [] i d l = absurd (omega arith)
set-remove (x ∷ xs) zero d l = refl
set-remove (x ∷ xs) (suc i) d l = ap (λ (s : OpSet). with_op s x) (set-remove xs i d (omega arith)) ∙ with_op-comm (set_of (remove xs i)) (get_or xs i d) x

pub set-absent : (xs : List Op) (q : Op) → AllByRecursion (λ y. eq_by_cmp op_cmp q y ≡ false) xs → has_op (set_of xs) q ≡ false
set-absent [] q a = none-held q
set-absent (x ∷ xs) q a = has_op-with_op (set_of xs) x q ∙ ap (λ b. b || has_op (set_of xs) q) a.0 ∙ set-absent xs q a.1

pub absent-set : (xs : List Op) (q : Op) → has_op (set_of xs) q ≡ false → AllByRecursion (λ y. eq_by_cmp op_cmp q y ≡ false) xs
absent-set [] q h = tt
absent-set (x ∷ xs) q h =
    let n = or_parts (eq_by_cmp op_cmp q x) (has_op (set_of xs) q) (sym (has_op-with_op (set_of xs) x q) ∙ h) in
    (n.0, absent-set xs q n.1)

pub set-among : (xs : List Op) (q : Op) → has_op (set_of xs) q ≡ true → Among q xs
set-among [] q h = absurd (true≢false (sym h ∙ none-held q))
set-among (x ∷ xs) q h = by_cases (eq_by_cmp op_cmp q x)
    (λ e. inl (sym (op_antisymmetric q x (is_equal (op_cmp q x) e))))
    (λ e. inr (set-among xs q (sym (ap (λ b. b || has_op (set_of xs) q) e) ∙ sym (has_op-with_op (set_of xs) x q) ∙ h)))

same-op : (q : Op) → eq_by_cmp op_cmp q q ≡ true
same-op q = ap is_eq (tied_itself op_total q)

pub set-size : (xs : List Op) → IsInTurn xs → size (set_of xs) ≡ length xs
set-size [] t = fin.len-empty op_cmp (Unit {0})
set-size (x ∷ xs) t =
    let absent : has_op (set_of xs) x ≡ false = set-absent xs x (Each-weaker (λ y. turn_cmp x y ≡ Less) (λ y. eq_by_cmp op_cmp x y ≡ false) (apart-left x) xs t.0) in
    let e : length xs + 1 ≡ suc (length xs) = omega arith in
    size-with_op (set_of xs) x ∙ ap (λ b. cond b (size (set_of xs)) (size (set_of xs) + 1)) absent ∙ ap (λ (n : ℕ). n + 1) (set-size xs t.1) ∙ e

-- ---- the list of a target

pub no_one-held : (s : Stamp) (xs : List Op) → AllByRecursion (λ y. waits_for s y ≡ false) xs → (op : Op) → has_op (set_of xs) op ≡ true → waits_for s op ≡ false
no_one-held s xs a op h = each-among (λ y. waits_for s y ≡ false) xs op a (set-among xs op h)

filter-none : (p : Op → Bool) (xs : List Op) → ((x : Op) → Among x xs → p x ≡ false) → filter p xs ≡ []
filter-none p [] f = refl
filter-none p (x ∷ xs) f = filter-miss p x xs (f x (inl refl)) ∙ filter-none p xs (λ y m. f y (inr m))

pub no_list : (s : Stamp) (h : OpSet) → ((op : Op) → has_op h op ≡ true → waits_for s op ≡ false) → waiting_at h s ≡ []
no_list s h f = filter-none (waits_for s) (in_order h) (λ q m. f q (held_among h q m))

abbrev keys : List (Op × Unit {0}) → List Op
keys es = map (λ (e : Op × Unit {0}). e.0) es

-- what a put does by how the two compare
abbrev kept_by : (Op → Bool) → Op → Op × Unit {0} → List (Op × Unit {0}) → Ordering → List Op
kept_by p x e es r = filter p (keys (by_order r ((x, tt) ∷ e ∷ es) ((e.0, tt) ∷ es) (e ∷ fin.put op_cmp x tt es)))

put-step : (p : Op → Bool) (x : Op) (e : Op × Unit {0}) (es : List (Op × Unit {0})) (r : Ordering) → op_cmp x e.0 ≡ r → p x ≡ true → eq_by_cmp op_cmp x e.0 ≡ false → (p e.0 ≡ true → op_cmp x e.0 ≡ Less) → filter p (keys (fin.put op_cmp x tt es)) ≡ x ∷ filter p (keys es) → filter p (keys (fin.put op_cmp x tt (e ∷ es))) ≡ x ∷ filter p (keys (e ∷ es))
put-step p x e es Less q h apart less rest = ap (kept_by p x e es) q ∙ filter-hit p x (e.0 ∷ keys es) h
put-step p x e es Equal q h apart less rest = absurd (true≢false (sym (ap is_eq q) ∙ apart))
put-step p x e es Greater q h apart less rest = ap (kept_by p x e es) q ∙ by_cases (p e.0)
    (λ t. absurd (true≢false (sym (ap is_lt (less t)) ∙ ap is_lt q)))
    (λ f. filter-miss p e.0 (keys (fin.put op_cmp x tt es)) f ∙ rest ∙ ap (λ (l : List Op). x ∷ l) (sym (filter-miss p e.0 (keys es) f)))

put-first : (p : Op → Bool) (x : Op) (es : List (Op × Unit {0})) → p x ≡ true → ((y : Op) → Among y (keys es) → eq_by_cmp op_cmp x y ≡ false) → ((y : Op) → Among y (keys es) → p y ≡ true → op_cmp x y ≡ Less) → filter p (keys (fin.put op_cmp x tt es)) ≡ x ∷ filter p (keys es)
put-first p x [] h apart less = filter-hit p x [] h
put-first p x (e ∷ es) h apart less =
    put-step p x e es (op_cmp x e.0) refl h (apart e.0 (inl refl)) (less e.0 (inl refl)) (put-first p x es h (λ y m. apart y (inr m)) (λ y m. less y (inr m)))

-- the least of those that wait heads the list
pub list-first : (s : Stamp) (h : OpSet) (x : Op) → waits_for s x ≡ true → has_op h x ≡ false → ((o : Op) → has_op (with_op h x) o ≡ true → waits_for s o ≡ true → (o ≡ x) ⊎ (op_cmp x o ≡ Less)) → waiting_at (with_op h x) s ≡ x ∷ waiting_at h s
list-first s h x w gone first =
    ap (λ (es : List (Op × Unit {0})). filter (waits_for s) (keys es)) (fin.entries-insert op_total h x tt)
    ∙ put-first (waits_for s) x (fin.entries h) w apart less
  where
    apart : (y : Op) → Among y (in_order h) → eq_by_cmp op_cmp x y ≡ false
    apart y m = by_cases (eq_by_cmp op_cmp x y)
        (λ e. absurd (true≢false (sym (ap (has_op h) (op_antisymmetric x y (is_equal (op_cmp x y) e)) ∙ held_among h y m) ∙ gone)))
        (λ e. e)

    or_true : (a : Bool) → (a || true) ≡ true
    or_true true = refl
    or_true false = refl

    less : (y : Op) → Among y (in_order h) → waits_for s y ≡ true → op_cmp x y ≡ Less
    less y m k = go (first y (has_op-with_op h x y ∙ ap (λ b. eq_by_cmp op_cmp y x || b) (held_among h y m) ∙ or_true (eq_by_cmp op_cmp y x)) k)
      where
        go : (y ≡ x) ⊎ (op_cmp x y ≡ Less) → op_cmp x y ≡ Less
        go (inl e) = absurd (true≢false (sym (ap (λ (z : Op). eq_by_cmp op_cmp x z) e ∙ same-op x) ∙ apart y m))
        go (inr l) = l

-- ---- of a list, one more taken

pub taken-more : (os : List Op) (k : ℕ) (h g : OpSet) (y d : Op) → k < length os → y ≡ get_or os k d → h ≡ with_all no_ops (take k os) → g ≡ with_op h y → g ≡ with_all no_ops (take (k + 1) os)
taken-more os k h g y d l is e f = f ∙ ap (λ (h : OpSet). with_op h y) e ∙ ap (with_op (with_all no_ops (take k os))) is ∙ sym (with_all-take no_ops os k d l)

pub taken-known : (os : List Op) (k : ℕ) (h : OpSet) (y d : Op) → k < length os → y ≡ get_or os k d → h ≡ with_all no_ops (take k os) → has_op h y ≡ true → h ≡ with_all no_ops (take (k + 1) os)
taken-known os k h y d l is e known = taken-more os k h h y d l is e (sym (with_op-known h y known))

-- ---- of a list in another order

set-any : (xs : List Op) (q : Op) → has_op (set_of xs) q ≡ list_any (eq_by_cmp op_cmp q) xs
set-any [] q = none-held q
set-any (x ∷ xs) q = has_op-with_op (set_of xs) x q ∙ ap (λ b. eq_by_cmp op_cmp q x || b) (set-any xs q)

pub set-permuted : (xs ys : List Op) → IsPermutation xs ys → set_of ys ≡ with_all no_ops xs
set-permuted xs ys h = same-set (set_of ys) (with_all no_ops xs) (λ q.
    set-any ys q ∙ sym (list_any-IsPermutation (eq_by_cmp op_cmp q) xs ys h)
    ∙ sym (has_op-with_all no_ops xs q ∙ ap (λ b. list_any (eq_by_cmp op_cmp q) xs || b) (none-held q) ∙ or-false (list_any (eq_by_cmp op_cmp q) xs)))

each-from_all : (P : Op → Type 0) (xs : List Op) → All P xs → AllByRecursion P xs
each-from_all P [] a = tt
each-from_all P (x ∷ xs) a = (a 0 x (omega arith), each-from_all P xs (λ k d l. a (suc k) d (omega arith)))

pub kept-permuted : (xs ys : List Op) → IsPermutation xs ys → IsInTurn ys → All IsLawful xs → All HasTarget xs → IsKept ys
kept-permuted xs ys h t lawful targets = record { in_turn = t; lawful = each-from_all IsLawful ys (All-permutation IsLawful xs ys h lawful); targets = each-from_all HasTarget ys (All-permutation HasTarget xs ys h targets) }
