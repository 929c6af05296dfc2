-- A stretch of a list, and what follows it.
use Rattle.std.proofs.Common.{◌≡◌, ℕ, ◌+◌, ◌-◌, ◌≤◌, ◌∙◌, ◌++◌, List, ap, sym, arith, length, take, drop}
use Rattle.std.proofs.Math.Seq.{take-add}
use Rattle.std.specs.Prelude.{Result, Ok, Err, IfOk}
use Rattle.std.proofs.lemmas.List.{take_all, take-take, drop-drop}
use Rattle.desk_ops.specs.declared.op.Op.{Op}
pub use Rattle.desk_ops.proofs.OpSets.{length-in_order}

-- the first n of a list that are the first of what follows a place are copied behind what was copied up to it
pub copied-more : (ops list part : List Op) (from at n : ℕ) → from ≤ at → n ≤ length part → part ≡ take (length part) (drop at ops) → list ≡ take (at - from) (drop from ops) → list ++ take n part ≡ take (at + n - from) (drop from ops)
copied-more ops list part from at n l w p h =
    let far : at ≡ from + (at - from) = omega arith in
    let on : at + n - from ≡ (at - from) + n = omega arith in
    let rest : drop at ops ≡ drop (at - from) (drop from ops) = ap (λ (k : ℕ). drop k ops) far ∙ sym (drop-drop (at - from) from ops) in
    let some : take n part ≡ take n (drop (at - from) (drop from ops)) = ap (take n) p ∙ take-take n (length part) (drop at ops) w ∙ ap (take n) rest in
    ap (λ (os : List Op). os ++ take n part) h ∙ ap (λ (os : List Op). take (at - from) (drop from ops) ++ os) some ∙ sym (take-add (at - from) n (drop from ops)) ∙ ap (λ (k : ℕ). take k (drop from ops)) (sym on)

-- from the first place to the last, they are all
pub copied-all : {V E : Type 0} (r : Result V E) (items : V → List Op) (ops : List Op) (n : ℕ) → n ≡ length ops → IfOk r (λ v. items v ≡ take (n - 0) (drop 0 ops)) → IfOk r (λ v. items v ≡ ops)
copied-all (Ok v) items ops n e h = h ∙ take_all (n - 0) ops (omega (arith, e))
copied-all (Err x) items ops n e h = tt
