-- Lists of operations added to a set, and the sets of lists.
use Rattle.std.proofs.Common.{◌≡◌, ℕ, ◌<◌, ◌≤◌, ◌||◌, cond, true, List, [], ◌∷◌, ◌++◌, length, take, drop, get_or, refl, sym, ap, ◌∙◌, arith}
use Rattle.std.specs.List.Sorted.{IsPermutation}
use Rattle.std.specs.Ordering.{eq_by_cmp}
use Rattle.std.proofs.Math.Seq.{take-add}
use Rattle.std.proofs.lemmas.List.{length-map, take_all, take-append-drop}
use Rattle.std.proofs.lemmas.List.Sorted.{list_any-IsPermutation}
use Rattle.std.specs.FinMap as fin
use Rattle.std.specs.Prelude.{T, ◌+◌}
use Rattle.desk_ops.specs.declared.op.Op.{Op}
use Rattle.desk_ops.specs.Order.{op_cmp}
use Rattle.desk_ops.specs.OpSet.{OpSet, no_ops, has_op, with_op, with_all, in_order, size, is_rising, from_rising}
use Rattle.desk_ops.proofs.OpSets.{no_ops-from_rising, in_order-from_rising}
use Rattle.desk_ops.proofs.Stamps.{by_cases}
use Rattle.desk_ops.proofs.Unions.{with_all-take, with_all_push, with_all-append, with_op-comm, same-set, has_op-with_all, size-with_op, with_all-in_order}

pub no_ops-in_order : in_order no_ops ≡ []
no_ops-in_order = ap in_order (sym no_ops-from_rising) ∙ in_order-from_rising [] tt

-- one operation of the list more
pub gained-more : (old now after : OpSet) (ops : List Op) (i : ℕ) (op : Op) → i < length ops → op ≡ get_or ops i op → now ≡ with_all old (take i ops) → after ≡ with_op now op → after ≡ with_all old (take (i + 1) ops)
gained-more old now after ops i op lt at e f =
    f ∙ ap (λ h. with_op h op) e ∙ ap (with_op (with_all old (take i ops))) at ∙ sym (with_all-take old ops i op lt)

-- the order of a list is of no account
pub with_all-permutation : (h : OpSet) (os ps : List Op) → IsPermutation os ps → with_all h os ≡ with_all h ps
with_all-permutation h os ps m = same-set (with_all h os) (with_all h ps)
    (λ q. has_op-with_all h os q ∙ ap (λ b. b || has_op h q) (list_any-IsPermutation (eq_by_cmp op_cmp q) os ps m) ∙ sym (has_op-with_all h ps q))

-- what was gained of a list, and that each operation that was gained took at most one place
pub record IsGained (old now : OpSet) (old_spare now_spare : ℕ) (ops : List Op) (i : ℕ) : Type 0 where
  pub whole : now ≡ with_all old (take i ops)
  pub room : old_spare ≤ now_spare + i
  pub places : old_spare + size old ≤ now_spare + size now

pub places-more : (now after : OpSet) (op : Op) (all now_spare spare : ℕ) → all ≤ now_spare + size now → after ≡ with_op now op → (has_op now op ≡ true → spare ≡ now_spare) → now_spare ≤ spare + 1 → all ≤ spare + size after
places-more now after op all now_spare spare le e known new = by_cases (has_op now op)
    (λ held. let n : size after ≡ size now = ap size e ∙ size-with_op now op ∙ ap (λ b. cond b (size now) (size now + 1)) held in omega (arith, n, le, known held))
    (λ none. let n : size after ≡ size now + 1 = ap size e ∙ size-with_op now op ∙ ap (λ b. cond b (size now) (size now + 1)) none in omega (arith, n, le, new))

pub no_list : (os : List Op) → length os ≡ 0 → os ≡ []
no_list [] z = refl
no_list (o ∷ os) z = absurd (omega (arith, z))

-- a set of no operations is none
pub none_held : (h : OpSet) → size h ≡ 0 → h ≡ no_ops
none_held h e = sym (with_all-in_order h) ∙ ap (with_all no_ops) (no_list (in_order h) (length-map (fin.entries h) (λ o. o.0) ∙ sym (fin.len-entries h) ∙ e))

-- the set of a list that rises
pub of_rising_list : (ops : List Op) → T (is_rising ops) → from_rising ops ≡ with_all no_ops ops
of_rising_list ops rising = sym (with_all-in_order (from_rising ops)) ∙ ap (with_all no_ops) (in_order-from_rising ops rising)

-- ---- two lists in one order

-- an operation that comes first comes last as well
pub with_op-with_all : (h : OpSet) (x : Op) (os : List Op) → with_all (with_op h x) os ≡ with_op (with_all h os) x
with_op-with_all h x [] = refl
with_op-with_all h x (o ∷ os) = ap (λ g. with_all g os) (with_op-comm h x o) ∙ with_op-with_all (with_op h o) x os

with_all-swap : (h : OpSet) (os ps : List Op) → with_all (with_all h os) ps ≡ with_all (with_all h ps) os
with_all-swap h [] ps = refl
with_all-swap h (o ∷ os) ps = with_all-swap (with_op h o) os ps ∙ ap (λ g. with_all g os) (with_op-with_all h o ps)

-- some of a list, and then the next of a stretch
pub part-more : (h : OpSet) (part ops slots after : List Op) (k n m : ℕ) (x : Op) → k < length part → x ≡ get_or part k x → with_all no_ops slots ≡ with_all (with_all h (take k part)) (take n ops) → after ≡ (slots ++ take m (drop n ops)) ++ x ∷ [] → with_all no_ops after ≡ with_all (with_all h (take (k + 1) part)) (take (n + m) ops)
part-more h part ops slots after k n m x lt is at e =
    let front = with_all h (take k part) in
    ap (with_all no_ops) e ∙ with_all_push no_ops (slots ++ take m (drop n ops)) x
    ∙ ap (λ g. with_op g x) (with_all-append no_ops slots (take m (drop n ops)) ∙ ap (λ g. with_all g (take m (drop n ops))) at ∙ sym (with_all-append front (take n ops) (take m (drop n ops))) ∙ ap (with_all front) (sym (take-add n m ops)))
    ∙ sym (with_op-with_all front x (take (n + m) ops))
    ∙ ap (λ g. with_all g (take (n + m) ops)) (ap (with_op front) is ∙ sym (with_all-take h part k x lt))

-- a stretch of what is held, and more of a list
pub beside-more : (held ops part slots after : List Op) (at n m : ℕ) → part ≡ take (length part) (drop at held) → with_all no_ops slots ≡ with_all (with_all no_ops (take at held)) (take n ops) → with_all no_ops after ≡ with_all (with_all (with_all no_ops slots) part) (take m (drop n ops)) → with_all no_ops after ≡ with_all (with_all no_ops (take (at + length part) held)) (take (n + m) ops)
beside-more held ops part slots after at n m is e f =
    let front = with_all no_ops (take at held) in
    let more = take m (drop n ops) in
    f ∙ ap (λ g. with_all (with_all g part) more) e ∙ ap (λ g. with_all g more) (with_all-swap front (take n ops) part)
    ∙ sym (with_all-append (with_all front part) (take n ops) more) ∙ ap (with_all (with_all front part)) (sym (take-add n m ops))
    ∙ ap (λ g. with_all g (take (n + m) ops)) (sym (with_all-append no_ops (take at held) part) ∙ ap (with_all no_ops) (ap (λ (l : List Op). take at held ++ l) is ∙ sym (take-add at (length part) held)))

-- all that is held, and the rest of the list
pub beside-all : (held ops slots after : List Op) (at n : ℕ) → T (is_rising held) → length held ≤ at → with_all no_ops slots ≡ with_all (with_all no_ops (take at held)) (take n ops) → after ≡ slots ++ drop n ops → with_all no_ops after ≡ with_all (from_rising held) ops
beside-all held ops slots after at n rising le e f =
    ap (with_all no_ops) f ∙ with_all-append no_ops slots (drop n ops)
    ∙ ap (λ g. with_all g (drop n ops)) (e ∙ ap (λ (l : List Op). with_all (with_all no_ops l) (take n ops)) (take_all at held le))
    ∙ sym (with_all-append (with_all no_ops held) (take n ops) (drop n ops)) ∙ ap (with_all (with_all no_ops held)) (take-append-drop n ops)
    ∙ ap (λ g. with_all g ops) (sym (of_rising_list held rising))
