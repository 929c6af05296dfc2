-- The order of the greatest target first, then by stamp and bytes, and a list that is kept in it.
use Rattle.std.proofs.Common.{◌≡◌, ℕ, zero, suc, ◌+◌, ◌-◌, ◌<◌, ◌≤◌, ◌⊎◌, inl, inr, Bool, true, false, List, [], ◌∷◌, length, take, drop, get_or, refl, sym, ap, ◌∙◌, arith}
use Rattle.std.specs.Prelude.{Option, Some, None, IsSome}
use Rattle.std.specs.Option.{unwrap_or}
use Rattle.std.specs.List.{insert, remove, AllByRecursion}
use Rattle.std.specs.Cmp.{IsTotalOrder}
use Rattle.std.specs.Ordering.{ordering_then, ordering_reverse, is_lt, is_eq, eq_by_cmp}
use Rattle.std.specs.declared.cmp.Ordering.{Ordering}
use Rattle.std.specs.declared.cmp.Ordering.TheVariants.{Less, Equal, Greater}
use Rattle.std.proofs.lemmas.Cmp.{then_total, on_total, back_total, tied_itself}
use Rattle.std.proofs.lemmas.Bool.{true≢false, cases_eq}
use Rattle.std.proofs.lemmas.List.{get_or_default}
use Rattle.desk_ops.specs.declared.op.Stamp.{Stamp}
use Rattle.desk_ops.specs.declared.op.Op.{Op}
use Rattle.desk_ops.specs.Stamp.{stamp_cmp, same, before, head}
use Rattle.desk_ops.specs.Op.{target_of}
use Rattle.desk_ops.specs.Order.{op_cmp}
use Rattle.desk_ops.specs.OrderLaws.{op_total, op_antisymmetric}
use Rattle.desk_ops.specs.Lists.{Among}
use Rattle.desk_ops.proofs.Stamps.{by_cases, stamp_total, stamp_tied, is_equal, is_less, same-cmp, same-true, before-trans, before-apart, before-apart_left}
use Rattle.desk_ops.proofs.Lists.{Each-weaker, Each-both, each-among, each-at, Each-insert}
use Rattle.desk_walk.specs.Waiting.{HasTarget, is_some_same, waits_for}
use Rattle.desk_walk.specs.Turn.{target_or_head, turn_cmp, IsInTurn}

pub turn_total : IsTotalOrder turn_cmp
turn_total = then_total (on_total target_or_head (back_total stamp_total)) op_total

-- ---- what is before another

pub apart-left : (x y : Op) → turn_cmp x y ≡ Less → eq_by_cmp op_cmp x y ≡ false
apart-left x y p = by_cases (eq_by_cmp op_cmp x y)
    (λ e. absurd (true≢false (sym (ap is_lt p) ∙ ap is_lt (ap (turn_cmp x) (sym (op_antisymmetric x y (is_equal (op_cmp x y) e))) ∙ tied_itself turn_total x))))
    (λ e. e)

pub apart-right : (x y : Op) → turn_cmp x y ≡ Less → eq_by_cmp op_cmp y x ≡ false
apart-right x y p = by_cases (eq_by_cmp op_cmp y x)
    (λ e. absurd (true≢false (sym (ap is_lt p) ∙ ap is_lt (ap (turn_cmp x) (op_antisymmetric y x (is_equal (op_cmp y x) e)) ∙ tied_itself turn_total x))))
    (λ e. e)

second_equal : (a b : Ordering) → ordering_then a b ≡ Equal → b ≡ Equal
second_equal Less b e = absurd (true≢false (sym (ap is_eq e)))
second_equal Equal b e = e
second_equal Greater b e = absurd (true≢false (sym (ap is_eq e)))

-- what is not before another, and not the same, is after it
pub after : (y x : Op) → is_lt (turn_cmp y x) ≡ false → eq_by_cmp op_cmp x y ≡ false → turn_cmp x y ≡ Less
after y x h n = go (turn_cmp y x) refl h
  where
    go : (r : Ordering) → turn_cmp y x ≡ r → is_lt r ≡ false → turn_cmp x y ≡ Less
    go Less e k = absurd (true≢false k)
    go Equal e k = absurd (true≢false (sym (ap is_eq (tied_itself op_total x)) ∙ ap (λ (z : Op). eq_by_cmp op_cmp x z) (sym (op_antisymmetric y x (second_equal (stamp_cmp (target_or_head x) (target_or_head y)) (op_cmp y x) e))) ∙ n))
    go Greater e k = turn_total.antisymm x y ∙ ap ordering_reverse e

-- a greater target, or the same
target-order : (x y : Op) → turn_cmp x y ≡ Less → (before (target_or_head y) (target_or_head x) ≡ true) ⊎ (target_or_head x ≡ target_or_head y)
unfolding before
target-order x y h = go (stamp_cmp (target_or_head y) (target_or_head x)) refl h
  where
    go : (r : Ordering) → stamp_cmp (target_or_head y) (target_or_head x) ≡ r → ordering_then r (op_cmp x y) ≡ Less → (is_lt (stamp_cmp (target_or_head y) (target_or_head x)) ≡ true) ⊎ (target_or_head x ≡ target_or_head y)
    go Less e k = inl (ap is_lt e)
    go Equal e k = inr (sym (stamp_tied (target_or_head y) (target_or_head x) e))
    go Greater e k = absurd (true≢false (sym (ap is_lt k)))

pub then-same : (s t : Stamp) (r : Ordering) → same s t ≡ true → is_lt (ordering_then (stamp_cmp s t) r) ≡ is_lt r
then-same s t r e = ap (λ o. is_lt (ordering_then o r)) (is_equal (stamp_cmp s t) (same-cmp s t ∙ e))

pub then-apart : (s t : Stamp) (r : Ordering) → same s t ≡ false → is_lt (ordering_then (stamp_cmp s t) r) ≡ before s t
unfolding before
then-apart s t r e = go (stamp_cmp s t) (same-cmp s t ∙ e)
  where
    go : (o : Ordering) → is_eq o ≡ false → is_lt (ordering_then o r) ≡ is_lt o
    go Less k = refl
    go Equal k = absurd (true≢false k)
    go Greater k = refl

-- ---- searches

-- the ones that are picked stand first
abbrev pub IsDown : (Op → Bool) → Type 0
IsDown p = (x y : Op) → turn_cmp x y ≡ Less → p y ≡ true → p x ≡ true

pub earlier-down : (op : Op) → IsDown (λ x. is_lt (turn_cmp x op))
earlier-down op x y l h = ap is_lt (turn_total.trans x y op l (is_less (turn_cmp y op) h))

pub above-down : (s : Stamp) → IsDown (λ x. before s (target_or_head x))
above-down s x y l h = go (target-order x y l)
  where
    go : (before (target_or_head y) (target_or_head x) ≡ true) ⊎ (target_or_head x ≡ target_or_head y) → before s (target_or_head x) ≡ true
    go (inl k) = before-trans s (target_or_head y) (target_or_head x) h k
    go (inr e) = ap (before s) e ∙ h

pub edge-below : (p : Op → Bool) → IsDown p → (xs : List Op) (i : ℕ) → IsInTurn xs → i ≤ length xs → ((d : Op) → 0 < i → p (get_or xs (i - 1) d) ≡ true) → AllByRecursion (λ y. p y ≡ true) (take i xs)
edge-below p down [] zero t l h = tt
edge-below p down [] (suc i) t l h = tt
edge-below p down (x ∷ xs) zero t l h = tt
edge-below p down (x ∷ xs) (suc i) t l h = (first (cases_eq i 0), edge-below p down xs i t.1 (omega arith) (λ d pos. last d pos))
  where
    last : (d : Op) → 0 < i → p (get_or xs (i - 1) d) ≡ true
    last d pos = let e : suc i - 1 ≡ suc (i - 1) = omega arith in ap (λ (n : ℕ). p (get_or (x ∷ xs) n d)) (sym e) ∙ h d (omega arith)

    first : (i ≡ 0) ⊎ (i ≡ 0 → ⊥) → p x ≡ true
    first (inl q) = let e : suc i - 1 ≡ 0 = omega arith in ap (λ (n : ℕ). p (get_or (x ∷ xs) n x)) (sym e) ∙ h x (omega arith)
    first (inr q) = down x (get_or xs (i - 1) x) (each-at (λ y. turn_cmp x y ≡ Less) xs (i - 1) x t.0 (omega arith)) (last x (omega arith))

pub edge-above : (p : Op → Bool) → IsDown p → (xs : List Op) (i : ℕ) → IsInTurn xs → ((d : Op) → i < length xs → p (get_or xs i d) ≡ false) → AllByRecursion (λ y. p y ≡ false) (drop i xs)
edge-above p down [] zero t h = tt
edge-above p down [] (suc i) t h = tt
edge-above p down (x ∷ xs) zero t h = (h x (omega arith), Each-weaker (λ y. turn_cmp x y ≡ Less) (λ y. p y ≡ false) (λ y l. by_cases (p y) (λ e. absurd (true≢false (sym (down x y l e) ∙ h x (omega arith)))) (λ e. e)) xs t.0)
edge-above p down (x ∷ xs) (suc i) t h = edge-above p down xs i t.1 (λ d l. h d (omega arith))

in-take : (p : Op → Bool) (xs : List Op) (i j : ℕ) (d : Op) → AllByRecursion (λ y. p y ≡ true) (take j xs) → i < j → i < length xs → p (get_or xs i d) ≡ true
in-take p [] i j d a l w = absurd (omega arith)
in-take p (x ∷ xs) i zero d a l w = absurd (omega arith)
in-take p (x ∷ xs) zero (suc j) d a l w = a.0
in-take p (x ∷ xs) (suc i) (suc j) d a l w = in-take p xs i j d a.1 (omega arith) (omega arith)

-- an entry that is not picked stands behind all that are
pub behind : (p : Op → Bool) (xs : List Op) (i j : ℕ) (d : Op) → AllByRecursion (λ y. p y ≡ true) (take j xs) → i < length xs → p (get_or xs i d) ≡ false → i < j → ⊥
behind p xs i j d a w h l = true≢false (sym (in-take p xs i j d a l w) ∙ h)

-- ---- an entry more, and one less

pub turn-insert : (xs : List Op) (i : ℕ) (x : Op) → IsInTurn xs → AllByRecursion (λ y. turn_cmp y x ≡ Less) (take i xs) → AllByRecursion (λ y. turn_cmp x y ≡ Less) (drop i xs) → IsInTurn (insert xs i x)
turn-insert [] zero x t b a = (tt, tt)
turn-insert [] (suc i) x t b a = (tt, tt)
turn-insert (y ∷ ys) zero x t b a = (a, t)
turn-insert (y ∷ ys) (suc i) x t b a = (Each-insert (λ z. turn_cmp y z ≡ Less) ys i x t.0 b.0, turn-insert ys i x t.1 b.1 a)

pub each-remove : (P : Op → Type 0) (xs : List Op) (i : ℕ) → AllByRecursion P xs → AllByRecursion P (remove xs i)
each-remove P [] zero a = tt
each-remove P [] (suc i) a = tt
each-remove P (x ∷ xs) zero a = a.1
each-remove P (x ∷ xs) (suc i) a = (a.0, each-remove P xs i a.1)

pub turn-remove : (xs : List Op) (i : ℕ) → IsInTurn xs → IsInTurn (remove xs i)
turn-remove [] zero t = tt
turn-remove [] (suc i) t = tt
turn-remove (x ∷ xs) zero t = t.1
turn-remove (x ∷ xs) (suc i) t = (each-remove (λ y. turn_cmp x y ≡ Less) xs i t.0, turn-remove xs i t.1)

all-drop : (P : Op → Type 0) (xs : List Op) (i : ℕ) → AllByRecursion P xs → AllByRecursion P (drop i xs)
all-drop P [] zero a = tt
all-drop P [] (suc i) a = tt
all-drop P (x ∷ xs) zero a = a
all-drop P (x ∷ xs) (suc i) a = all-drop P xs i a.1

-- what is not before an operation that is none of them comes after it
pub above-all : (op : Op) (xs : List Op) (i : ℕ) → AllByRecursion (λ y. is_lt (turn_cmp y op) ≡ false) (drop i xs) → AllByRecursion (λ y. eq_by_cmp op_cmp op y ≡ false) xs → AllByRecursion (λ y. turn_cmp op y ≡ Less) (drop i xs)
above-all op xs i a n = Each-both (λ y. is_lt (turn_cmp y op) ≡ false) (λ y. eq_by_cmp op_cmp op y ≡ false) (λ y. turn_cmp op y ≡ Less) (λ y h k. after y op h k) (drop i xs) a (all-drop (λ y. eq_by_cmp op_cmp op y ≡ false) xs i n)

-- and one is none of them where the one at the edge is another
pub absent-at_edge : (op : Op) (xs : List Op) (i : ℕ) → IsInTurn xs → AllByRecursion (λ y. is_lt (turn_cmp y op) ≡ true) (take i xs) → ((d : Op) → i < length xs → turn_cmp op (get_or xs i d) ≡ Less) → AllByRecursion (λ y. eq_by_cmp op_cmp op y ≡ false) xs
absent-at_edge op [] i t b a = tt
absent-at_edge op (x ∷ xs) zero t b a = (apart-left op x (a x (omega arith)), Each-weaker (λ y. turn_cmp x y ≡ Less) (λ y. eq_by_cmp op_cmp op y ≡ false) (λ y l. apart-left op y (turn_total.trans op x y (a x (omega arith)) l)) xs t.0)
absent-at_edge op (x ∷ xs) (suc i) t b a = (apart-right x op (is_less (turn_cmp x op) b.0), absent-at_edge op xs i t.1 b.1 (λ d l. a d (omega arith)))

-- one that is taken out is none of those left
pub apart-remove : (xs : List Op) (i : ℕ) (d : Op) → IsInTurn xs → i < length xs → AllByRecursion (λ y. eq_by_cmp op_cmp (get_or xs i d) y ≡ false) (remove xs i)
apart-remove [] i d t l = absurd (omega arith)
apart-remove (x ∷ xs) zero d t l = Each-weaker (λ y. turn_cmp x y ≡ Less) (λ y. eq_by_cmp op_cmp x y ≡ false) (apart-left x) xs t.0
apart-remove (x ∷ xs) (suc i) d t l = (apart-right x (get_or xs i d) (each-at (λ y. turn_cmp x y ≡ Less) xs i d t.0 (omega arith)), apart-remove xs i d t.1 (omega arith))

-- ---- who waits

not_below : (s : Stamp) (r : Option Stamp) → before (unwrap_or r head) s ≡ true → is_some_same s r ≡ false
not_below s None h = refl
not_below s (Some t) h = before-apart_left t s h

not_above : (s : Stamp) (r : Option Stamp) → before s (unwrap_or r head) ≡ true → is_some_same s r ≡ false
not_above s None h = refl
not_above s (Some t) h = before-apart s t h

waits-head : (s : Stamp) (r : Option Stamp) → is_some_same s r ≡ true → unwrap_or r head ≡ s
waits-head s None h = absurd (true≢false (sym h))
waits-head s (Some t) h = same-true t s h

some-target : (s : Stamp) (r : Option Stamp) → IsSome r → unwrap_or r head ≡ s → r ≡ Some s
some-target s None some h = absurd (true≢false (sym some))
some-target s (Some t) some h = ap Some h

pub has-target : (s : Stamp) (o : Op) → HasTarget o → target_or_head o ≡ s → target_of o ≡ Some s
has-target s o some h = some-target s (target_of o) some h

-- no one, where each has a greater target or a smaller one
pub no_one-waits : (s : Stamp) (xs : List Op) (i : ℕ) → IsInTurn xs → AllByRecursion (λ y. before s (target_or_head y) ≡ true) (take i xs) → ((d : Op) → i < length xs → before (target_or_head (get_or xs i d)) s ≡ true) → AllByRecursion (λ y. waits_for s y ≡ false) xs
no_one-waits s [] i t b a = tt
no_one-waits s (x ∷ xs) zero t b a = (not_below s (target_of x) (a x (omega arith)), Each-weaker (λ y. turn_cmp x y ≡ Less) (λ y. waits_for s y ≡ false) (λ y l. not_below s (target_of y) (up y (target-order x y l))) xs t.0)
  where
    up : (y : Op) → (before (target_or_head y) (target_or_head x) ≡ true) ⊎ (target_or_head x ≡ target_or_head y) → before (target_or_head y) s ≡ true
    up y (inl k) = before-trans (target_or_head y) (target_or_head x) s k (a x (omega arith))
    up y (inr e) = ap (λ (t : Stamp). before t s) (sym e) ∙ a x (omega arith)
no_one-waits s (x ∷ xs) (suc i) t b a = (not_above s (target_of x) b.0, no_one-waits s xs i t.1 b.1 (λ d l. a d (omega arith)))

op-less : (x o : Op) (s : Stamp) → turn_cmp x o ≡ Less → target_or_head x ≡ s → target_or_head o ≡ s → op_cmp x o ≡ Less
op-less x o s l tx to =
    let tied : stamp_cmp (target_or_head o) (target_or_head x) ≡ Equal = ap (λ (t : Stamp). stamp_cmp t (target_or_head x)) to ∙ ap (stamp_cmp s) tx ∙ tied_itself stamp_total s in
    sym (ap (λ (r : Ordering). ordering_then r (op_cmp x o)) tied) ∙ l

-- the one at the edge is the first of those that wait
pub first-waits : (s : Stamp) (xs : List Op) (i : ℕ) (d : Op) → IsInTurn xs → i < length xs → AllByRecursion (λ y. before s (target_or_head y) ≡ true) (take i xs) → target_or_head (get_or xs i d) ≡ s → (o : Op) → Among o xs → waits_for s o ≡ true → (o ≡ get_or xs i d) ⊎ (op_cmp (get_or xs i d) o ≡ Less)
first-waits s [] i d t l b e o m w = absurd (omega arith)
first-waits s (x ∷ xs) zero d t l b e o (inl q) w = inl (sym q)
first-waits s (x ∷ xs) zero d t l b e o (inr m) w = inr (op-less x o s (each-among (λ y. turn_cmp x y ≡ Less) xs o t.0 m) e (waits-head s (target_of o) w))
first-waits s (x ∷ xs) (suc i) d t l b e o (inl q) w = absurd (true≢false (sym w ∙ ap (waits_for s) (sym q) ∙ not_above s (target_of x) b.0))
first-waits s (x ∷ xs) (suc i) d t l b e o (inr m) w = first-waits s xs i d t.1 (omega arith) b.1 e o m w

-- ---- a list that is looked at pair by pair

pub turn-from : (xs : List Op) → ((k : ℕ) (d : Op) → k + 1 < length xs → is_lt (turn_cmp (get_or xs k d) (get_or xs (k + 1) d)) ≡ true) → IsInTurn xs
turn-from [] h = tt
turn-from (x ∷ []) h = (tt, tt)
turn-from (x ∷ y ∷ ys) h =
    let rest : IsInTurn (y ∷ ys) = turn-from (y ∷ ys) (λ k d l. (let e : suc k + 1 ≡ suc (k + 1) = omega arith in ap (λ (n : ℕ). is_lt (turn_cmp (get_or (y ∷ ys) k d) (get_or (x ∷ y ∷ ys) n d))) (sym e) ∙ h (suc k) d (omega arith))) in
    let less : turn_cmp x y ≡ Less = is_less (turn_cmp x y) (h 0 x (omega arith)) in
    ((less, Each-weaker (λ z. turn_cmp y z ≡ Less) (λ z. turn_cmp x z ≡ Less) (λ z l. turn_total.trans x y z less l) ys rest.0), rest)

-- the pair before i, and those before it
pub pairs-more : (xs : List Op) (i : ℕ) (e : Op) → 1 ≤ i → i < length xs → ((k : ℕ) (d : Op) → k + 1 < i → k + 1 < length xs → is_lt (turn_cmp (get_or xs k d) (get_or xs (k + 1) d)) ≡ true) → is_lt (turn_cmp (get_or xs (i - 1) e) (get_or xs i e)) ≡ true → (k : ℕ) (d : Op) → k + 1 < i + 1 → k + 1 < length xs → is_lt (turn_cmp (get_or xs k d) (get_or xs (k + 1) d)) ≡ true
pairs-more xs i e some l h last k d w v = go (cases_eq (k + 1) i)
  where
    go : (k + 1 ≡ i) ⊎ (k + 1 ≡ i → ⊥) → is_lt (turn_cmp (get_or xs k d) (get_or xs (k + 1) d)) ≡ true
    go (inl q) =
        let before_it : k ≡ i - 1 = omega arith in
        ap (λ (o : Op). is_lt (turn_cmp o (get_or xs (k + 1) d))) (get_or_default xs k d e (omega arith))
        ∙ ap (λ (o : Op). is_lt (turn_cmp (get_or xs k e) o)) (get_or_default xs (k + 1) d e v)
        ∙ ap (λ (n : ℕ). is_lt (turn_cmp (get_or xs n e) (get_or xs (k + 1) e))) before_it
        ∙ ap (λ (n : ℕ). is_lt (turn_cmp (get_or xs (i - 1) e) (get_or xs n e))) q
        ∙ last
    go (inr n) = h k d (omega arith) v
