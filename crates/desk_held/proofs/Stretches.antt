-- Stretches of rising operations that are passed one after the other.
use Rattle.std.proofs.Common.{◌≡◌, ℕ, ◌+◌, ◌-◌, ◌<◌, ◌≤◌, ◌⊎◌, inl, inr, false, List, length, take, drop, get_or, sym, ap, subst, ◌∙◌, arith}
use Rattle.std.specs.Prelude.{T}
use Rattle.std.specs.Ordering.{is_lt}
use Rattle.std.specs.declared.cmp.Ordering.TheVariants.{Less}
use Rattle.std.proofs.Math.Nat.{eq-or-lt_of_le}
use Rattle.std.proofs.lemmas.List.{get_or-take, get_or-drop, get_or_default, length-take, length-drop}
use Rattle.desk_ops.specs.declared.op.Op.{Op}
use Rattle.desk_ops.specs.Order.{op_cmp}
use Rattle.desk_ops.specs.OrderLaws.{op_total}
use Rattle.desk_ops.specs.OpSet.{is_rising}
use Rattle.desk_ops.proofs.OpSets.{rising_less}
use Rattle.desk_ops.proofs.Stamps.{is_less}
use Rattle.list_pages.specs.Pages.{IsEdge}
use Rattle.desk_held.specs.Passing.{IsPart, IsPassed}
use Rattle.desk_held.proofs.Edges.{earlier}

pub part-at : (ops part : List Op) (start k : ℕ) (d : Op) → part ≡ take (length part) (drop start ops) → k < length part → get_or part k d ≡ get_or ops (start + k) d
part-at ops part start k d is lt = ap (λ (l : List Op). get_or l k d) is ∙ get_or-take (length part) (drop start ops) k d lt ∙ get_or-drop start ops k d

-- those that were passed in a stretch come before the operation
pub skipped : (ops part : List Op) (start from at : ℕ) (op : Op) → part ≡ take (length part) (drop start ops) → from ≤ at → at ≤ length part → (from < at → IsPassed part at op) → IsPassed ops (start + from) op → IsPassed ops (start + at) op
skipped ops part start from at op is le within passed before = go (eq-or-lt_of_le le)
  where
    go : (from ≡ at) ⊎ (from < at) → IsPassed ops (start + at) op
    go (inl q) = subst (λ (n : ℕ). IsPassed ops (start + n) op) q before
    go (inr l) = λ d some.
        let here : at - 1 < length part = omega (arith, l, within) in
        let on : start + (at - 1) ≡ start + at - 1 = omega (arith, l) in
        ap (λ (n : ℕ). is_lt (op_cmp (get_or ops n d) op)) (sym on) ∙ ap (λ (x : Op). is_lt (op_cmp x op)) (sym (part-at ops part start (at - 1) d is here)) ∙ passed l d (omega (arith, l))

-- at another place of the stretch
pub part-to : (ops part : List Op) (start from at : ℕ) → IsPart ops start part from → at ≤ length part → IsPart ops start part at
part-to ops part start from at p le = record { is = p.is; fits = p.fits; place = le }

-- the stretch that follows
pub next-part : (ops part : List Op) (start at : ℕ) → part ≡ take (length part) (drop start ops) → start ≤ length ops → at ≤ length part → IsPart ops start part at
next-part ops part start at is le place =
    let n : length part ≡ length (take (length part) (drop start ops)) = ap length is in
    record { is = is; fits = omega (arith, n, length-take (length part) (drop start ops), length-drop start ops, le); place = place }

-- the first that does not come before the operation
pub found-edge : (ops part : List Op) (start at : ℕ) (op : Op) → IsPart ops start part at → IsPassed ops (start + at) op → (at < length part → is_lt (op_cmp (get_or part at op) op) ≡ false) → (length part ≤ at → start + at ≡ length ops) → IsEdge (earlier op) ops (start + at)
found-edge ops part start at op p passed stops end = record {
  within = let f = p.fits in let w = p.place in omega (arith, f, w);
  below = passed;
  stops = λ d lt. go d lt (eq-or-lt_of_le p.place);
}
  where
    go : (d : Op) → start + at < length ops → (at ≡ length part) ⊎ (at < length part) → earlier op (get_or ops (start + at) d) ≡ false
    go d lt (inl q) = absurd (let e : start + at ≡ length ops = end (omega (arith, q)) in omega (arith, e, lt))
    go d lt (inr l) = ap (earlier op) (get_or_default ops (start + at) d op lt ∙ sym (part-at ops part start at op p.is l)) ∙ stops l

-- what comes before an operation comes before the next of a list that rises
pub passed-next : (held ops : List Op) (place i : ℕ) (op next : Op) → T (is_rising ops) → i + 1 < length ops → op ≡ get_or ops i op → next ≡ get_or ops (i + 1) next → IsPassed held place op → IsPassed held place next
passed-next held ops place i op next rising lt at on passed d some =
    let less : op_cmp op next ≡ Less = ap (λ (x : Op). op_cmp x next) (at ∙ get_or_default ops i op next (omega (arith, lt))) ∙ ap (op_cmp (get_or ops i next)) on ∙ rising_less ops i (i + 1) next rising (omega arith) lt in
    ap is_lt (op_total.trans (get_or held (place - 1) d) op next (is_less (op_cmp (get_or held (place - 1) d) op) (passed d some)) less)
