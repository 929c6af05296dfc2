-- Greatest counters, of parts of a list.
use Rattle.std.proofs.Common.{◌≡◌, ℕ, ◌+◌, ◌-◌, ◌<◌, ◌≤◌, List, [], ◌∷◌, ◌++◌, length, take, drop, max, refl, sym, ap, subst, ◌∙◌, arith, inl, inr, true, false}
use Rattle.std.specs.Prelude.{◌⊎◌, ◌==◌, if◌then◌else◌, nat_le}
use Rattle.std.proofs.lemmas.Bool.{eqb-true}
use Rattle.std.proofs.lemmas.Bool.Decides.{nat_tests}
use Rattle.desk_ops.proofs.Ends.{among_held, held_among}
use Rattle.desk_ops.proofs.Stamps.{by_cases}
use Rattle.desk_ops.specs.Lists.{Among}
use Rattle.desk_ops.specs.OpSet.{OpSet, has_op, in_order}
use Rattle.std.proofs.lemmas.List.{at_drop_all, drop-drop, take-append-drop}
use Rattle.desk_ops.specs.declared.op.Op.{Op}
use Rattle.desk_ops.specs.Op.{stamp_of}
use Rattle.feed_stored.specs.Greatest.{counter_by, greatest_from, greatest_of}

pub from_append : (n : ℕ) (xs ys : List Op) (site : ℕ) → greatest_from n (xs ++ ys) site ≡ greatest_from (greatest_from n xs site) ys site
from_append n [] ys site = refl
from_append n (op ∷ xs) ys site = from_append (max n (counter_by site op)) xs ys site

-- a turn over the next of a list
pub next_turn : (n more all : ℕ) (list items : List Op) (from until site : ℕ) → from ≤ until → items ≡ take (until - from) (drop from list) → more ≡ greatest_from n items site → greatest_from n (drop from list) site ≡ all
    → greatest_from more (drop until list) site ≡ all
next_turn n more all list items from until site order taken next so_far =
    let behind : drop (until - from) (drop from list) ≡ drop until list = drop-drop (until - from) from list ∙ ap (λ k. drop k list) (omega (arith, order)) in
    ap (λ m. greatest_from m (drop until list) site) (next ∙ ap (λ l. greatest_from n l site) taken)
    ∙ ap (λ l. greatest_from (greatest_from n (take (until - from) (drop from list)) site) l site) (sym behind)
    ∙ sym (from_append n (take (until - from) (drop from list)) (drop (until - from) (drop from list)) site)
    ∙ ap (λ l. greatest_from n l site) (take-append-drop (until - from) (drop from list)) ∙ so_far

-- a turn with nothing left
pub last_turn : (n all : ℕ) (list : List Op) (from site : ℕ) → length list ≤ from → greatest_from n (drop from list) site ≡ all → n ≡ all
last_turn n all list from site end so_far = sym (at_drop_all (λ l. greatest_from n l site) list from end) ∙ so_far

-- ---- the greatest is reached

from_least : (n : ℕ) (ops : List Op) (site : ℕ) → n ≤ greatest_from n ops site
from_least n [] site = omega arith
from_least n (op ∷ ops) site = let more = from_least (max n (counter_by site op)) ops site in omega (arith, more)

within_from : (n : ℕ) (ops : List Op) (site : ℕ) (op : Op) → Among op ops → counter_by site op ≤ greatest_from n ops site
within_from n [] site op among = absurd among
within_from n (p ∷ ops) site op (inl same) =
    let least = from_least (max n (counter_by site p)) ops site in
    let one : counter_by site p ≡ counter_by site op = ap (counter_by site) same in
    omega (arith, least, one)
within_from n (p ∷ ops) site op (inr behind) = within_from (max n (counter_by site p)) ops site op behind

abbrev IsReached : ℕ → List Op → ℕ → Type 0
IsReached n ops site = (greatest_from n ops site ≡ n) ⊎ ((op : Op) × Among op ops × (counter_by site op ≡ greatest_from n ops site))

reached_from : (n : ℕ) (ops : List Op) (site : ℕ) → IsReached n ops site
reached_from n [] site = inl refl
reached_from n (op ∷ ops) site = go (reached_from (max n (counter_by site op)) ops site)
  where
    go : IsReached (max n (counter_by site op)) ops site → IsReached n (op ∷ ops) site
    go (inl e) =
        by_cases (nat_le (counter_by site op) n) (λ k. let l : counter_by site op ≤ n = grind (arith, nat_tests) in inl (omega (arith, e, l)))
        (λ k. let l : n < counter_by site op = grind (arith, nat_tests) in inr (op, inl refl, omega (arith, e, l)))
    go (inr r) = inr (r.0, inr r.1, r.2)

own_counter : (site : ℕ) (op : Op) → (stamp_of op).site ≡ site → counter_by site op ≡ (stamp_of op).counter
own_counter site op same = let test : ((stamp_of op).site == site) ≡ true = grind (arith, nat_tests) in ap (λ b. if b then (stamp_of op).counter else 0) test

pub greatest_within : (set : OpSet) (site : ℕ) (op : Op) → has_op set op ≡ true → (stamp_of op).site ≡ site → (stamp_of op).counter ≤ greatest_of set site
greatest_within set site op held same =
    let most = within_from 0 (in_order set) site op (among_held set op held) in
    let own = own_counter site op same in
    omega (arith, most, own)

pub greatest_reached : (set : OpSet) (site : ℕ) → (greatest_of set site ≡ 0) ⊎ ((op : Op) × (has_op set op ≡ true) × ((stamp_of op).site ≡ site) × ((stamp_of op).counter ≡ greatest_of set site))
greatest_reached set site = go (reached_from 0 (in_order set) site)
  where
    go : IsReached 0 (in_order set) site → (greatest_of set site ≡ 0) ⊎ ((op : Op) × (has_op set op ≡ true) × ((stamp_of op).site ≡ site) × ((stamp_of op).counter ≡ greatest_of set site))
    go (inl e) = inl e
    go (inr r) =
        by_cases ((stamp_of r.0).site == site)
        (λ k. inr (r.0, held_among set r.0 r.1, eqb-true (stamp_of r.0).site site k, sym (own_counter site r.0 (eqb-true (stamp_of r.0).site site k)) ∙ r.2))
        (λ k. inl (sym r.2 ∙ ap (λ b. if b then (stamp_of r.0).counter else 0) k))
