-- What a search for an operation, or for a target, says of the set.
use Rattle.std.proofs.Common.{◌≡◌, ℕ, ◌<◌, ◌≤◌, ◌⊎◌, inl, inr, Bool, true, false, List, ◌∷◌, length, take, get_or, refl, sym, ap, ◌∙◌, subst, arith}
use Rattle.std.specs.Prelude.{Option, Some, None, IsNone, IfSome}
use Rattle.std.specs.List.{remove, AllByRecursion}
use Rattle.std.specs.Ordering.{is_lt, eq_by_cmp}
use Rattle.std.specs.declared.cmp.Ordering.TheVariants.{Less}
use Rattle.std.proofs.lemmas.Bool.{cases_lt}
use Rattle.std.proofs.lemmas.Cmp.{eq_by_cmp_equiv}
use Rattle.std.proofs.lemmas.List.{get_or_default}
use Rattle.desk_ops.specs.declared.op.Stamp.{Stamp}
use Rattle.desk_ops.specs.declared.op.Op.{Op}
use Rattle.desk_ops.specs.Stamp.{before, same}
use Rattle.desk_ops.specs.Op.{target_of, IsLawful}
use Rattle.desk_ops.specs.Order.{op_cmp}
use Rattle.desk_ops.specs.OrderLaws.{op_total, op_antisymmetric}
use Rattle.desk_ops.specs.OpSet.{OpSet, has_op, with_op}
use Rattle.desk_ops.proofs.Stamps.{by_cases, is_equal, same-refl, same-symm, before-other}
use Rattle.desk_ops.proofs.Joined.{has_op-with_op_own}
use Rattle.desk_ops.proofs.Lists.{each-at}
use Rattle.list_pages.specs.Pages.{IsEdge}
use Rattle.desk_walk.specs.Waiting.{HasTarget, is_some_same, waits_for, waiting_at, IsReleased}
use Rattle.desk_walk.specs.Turn.{target_or_head, turn_cmp, IsInTurn, IsKept, set_of}
use Rattle.desk_walk.proofs.Turns.{IsDown, earlier-down, above-down, edge-below, behind, after, absent-at_edge, apart-remove, each-remove, turn-remove, has-target, no_one-waits, first-waits}
use Rattle.desk_walk.proofs.Sets.{set-remove, set-absent, set-among, no_one-held, list-first}

abbrev pub earlier : Op → Op → Bool
earlier op x = is_lt (turn_cmp x op)

abbrev pub above : Stamp → Op → Bool
above s x = before s (target_or_head x)

-- the entry at an edge, and that it is not picked
pub at-edge : (p : Op → Bool) (xs : List Op) (i : ℕ) (x : Op) → IsEdge p xs i → i < length xs → x ≡ get_or xs i x → p x ≡ false
at-edge p xs i x edge l is = ap p is ∙ edge.stops x l

get-or : (xs : List Op) (i : ℕ) (x d : Op) → i < length xs → x ≡ get_or xs i x → get_or xs i d ≡ x
get-or xs i x d l is = get_or_default xs i d x l ∙ sym is

picked : (p : Op → Bool) → IsDown p → (xs : List Op) (i : ℕ) → IsInTurn xs → IsEdge p xs i → AllByRecursion (λ y. p y ≡ true) (take i xs)
picked p down xs i t edge = edge-below p down xs i t edge.within edge.below

-- ---- has

pub has-at : (xs : List Op) (op x : Op) (i : ℕ) → IsInTurn xs → IsEdge (earlier op) xs i → i < length xs → x ≡ get_or xs i x → eq_by_cmp op_cmp x op ≡ has_op (set_of xs) op
has-at xs op x i t edge l is = by_cases (eq_by_cmp op_cmp x op) here other
  where
    here : eq_by_cmp op_cmp x op ≡ true → eq_by_cmp op_cmp x op ≡ has_op (set_of xs) op
    here e =
        let same_one : op ≡ get_or xs i x = sym (op_antisymmetric x op (is_equal (op_cmp x op) e)) ∙ is in
        let held : has_op (set_of xs) (get_or xs i x) ≡ true = ap (λ (h : OpSet). has_op h (get_or xs i x)) (set-remove xs i x l) ∙ has_op-with_op_own (set_of (remove xs i)) (get_or xs i x) in
        e ∙ sym (ap (has_op (set_of xs)) same_one ∙ held)

    other : eq_by_cmp op_cmp x op ≡ false → eq_by_cmp op_cmp x op ≡ has_op (set_of xs) op
    other e =
        let later : turn_cmp op x ≡ Less = after x op (at-edge (earlier op) xs i x edge l is) ((eq_by_cmp_equiv op_total).symm op x ∙ e) in
        e ∙ sym (set-absent xs op (absent-at_edge op xs i t (picked (earlier op) (earlier-down op) xs i t edge) (λ d w. ap (turn_cmp op) (get-or xs i x d w is) ∙ later)))

pub has-none : (xs : List Op) (op : Op) → IsInTurn xs → IsEdge (earlier op) xs (length xs) → false ≡ has_op (set_of xs) op
has-none xs op t edge = sym (set-absent xs op (absent-at_edge op xs (length xs) t (picked (earlier op) (earlier-down op) xs (length xs) t edge) (λ d w. absurd (omega arith))))

-- ---- nothing waits

pub none-waits : (s : Stamp) (xs : List Op) → IsInTurn xs → IsEdge (above s) xs (length xs) → (op : Op) → has_op (set_of xs) op ≡ true → waits_for s op ≡ false
none-waits s xs t edge = no_one-held s xs (no_one-waits s xs (length xs) t (picked (above s) (above-down s) xs (length xs) t edge) (λ d w. absurd (omega arith)))

pub other-waits : (s : Stamp) (xs : List Op) (i : ℕ) (x : Op) → IsInTurn xs → IsEdge (above s) xs i → i < length xs → x ≡ get_or xs i x → same (target_or_head x) s ≡ false → (op : Op) → has_op (set_of xs) op ≡ true → waits_for s op ≡ false
other-waits s xs i x t edge l is apart = no_one-held s xs (no_one-waits s xs i t (picked (above s) (above-down s) xs i t edge) (λ d w. ap (λ (o : Op). before (target_or_head o) s) (get-or xs i x d w is) ∙ before-other s (target_or_head x) (at-edge (above s) xs i x edge l is) (same-symm s (target_or_head x) ∙ apart)))

-- ---- release

-- what a search that takes out says
abbrev pub IsTaken : (Op → Bool) → List Op → List Op → Op → Type 0
IsTaken p xs ys x = (i : ℕ) × IsEdge p xs i × (i < length xs) × (x ≡ get_or xs i x) × (ys ≡ remove xs i)

pub kept-after : (p : Op → Bool) (r : Option Op) (xs ys : List Op) → IsKept xs → IfSome r (λ x. IsTaken p xs ys x) → (IsNone r → IsEdge p xs (length xs) × (ys ≡ xs)) → IsKept ys
kept-after p None xs ys k f n = subst IsKept (sym (n refl).1) k
kept-after p (Some x) xs ys k f n =
    let is : IsKept (remove xs f.0) = record { in_turn = turn-remove xs f.0 k.in_turn; lawful = each-remove IsLawful xs f.0 k.lawful; targets = each-remove HasTarget xs f.0 k.targets } in
    subst IsKept (sym f.4) is

-- there is one edge
one-edge : (p : Op → Bool) → IsDown p → (xs : List Op) (i j : ℕ) (d : Op) → IsInTurn xs → IsEdge p xs i → IsEdge p xs j → i < length xs → j < length xs → i ≡ j
one-edge p down xs i j d t at to l w = go (cases_lt i j) (cases_lt j i)
  where
    go : (i < j) ⊎ (j ≤ i) → (j < i) ⊎ (i ≤ j) → i ≡ j
    go (inl h) k = absurd (behind p xs i j d (picked p down xs j t to) l (at.stops d l) h)
    go (inr h) (inl k) = absurd (behind p xs j i d (picked p down xs i t at) w (to.stops d w) k)
    go (inr h) (inr k) = omega arith

released-at : (s : Stamp) (xs : List Op) (i : ℕ) (d : Op) → IsKept xs → IsEdge (above s) xs i → i < length xs → target_or_head (get_or xs i d) ≡ s → IsReleased (set_of xs) (set_of (remove xs i)) s (get_or xs i d)
released-at s xs i d k edge l t =
    let y : Op = get_or xs i d in
    let rest : set_of xs ≡ with_op (set_of (remove xs i)) y = set-remove xs i d l in
    let gone : has_op (set_of (remove xs i)) y ≡ false = set-absent (remove xs i) y (apart-remove xs i d k.in_turn l) in
    let target : target_of y ≡ Some s = has-target s y (each-at HasTarget xs i d k.targets l) t in
    let first : (o : Op) → has_op (set_of xs) o ≡ true → waits_for s o ≡ true → (o ≡ y) ⊎ (op_cmp y o ≡ Less) = λ o h w. first-waits s xs i d k.in_turn l (picked (above s) (above-down s) xs i k.in_turn edge) t o (set-among xs o h) w in
    let at : waiting_at (with_op (set_of (remove xs i)) y) s ≡ y ∷ waiting_at (set_of (remove xs i)) s = list-first s (set_of (remove xs i)) y (ap (is_some_same s) target ∙ same-refl s) gone (λ o h w. first o (ap (λ (h : OpSet). has_op h o) rest ∙ h) w) in
    record {
      held = ap (λ (h : OpSet). has_op h y) rest ∙ has_op-with_op_own (set_of (remove xs i)) y;
      target = target;
      lawful = each-at IsLawful xs i d k.lawful l;
      gone = gone;
      rest = rest;
      first = first;
      at = ap (λ (h : OpSet). waiting_at h s) rest ∙ at;
    }

pub released : (s : Stamp) (r : Option Op) (xs ys : List Op) (i : ℕ) (first : Op) → IsKept xs → IsEdge (above s) xs i → i < length xs → first ≡ get_or xs i first → target_or_head first ≡ s → IfSome r (λ x. IsTaken (above s) xs ys x) → IfSome r (λ op. IsReleased (set_of xs) (set_of ys) s op)
released s None xs ys i first k edge l is t f = tt
released s (Some x) xs ys i first k edge l is t f =
    let e : i ≡ f.0 = one-edge (above s) (above-down s) xs i f.0 x k.in_turn edge f.1 l f.2 in
    let to : target_or_head (get_or xs f.0 x) ≡ s = ap (λ (n : ℕ). target_or_head (get_or xs n x)) (sym e) ∙ ap target_or_head (get-or xs i first x l is) ∙ t in
    subst (λ (ys : List Op). IsReleased (set_of xs) (set_of ys) s x) (sym f.4) (subst (λ (o : Op). IsReleased (set_of xs) (set_of (remove xs f.0)) s o) (sym f.3) (released-at s xs f.0 x k f.1 f.2 to))
