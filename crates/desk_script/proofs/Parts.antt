-- A part of a list, by its places.
use Rattle.std.proofs.Common.{◌≡◌, ℕ, ◌-◌, ◌<◌, ◌≤◌, ◌∙◌, Bool, true, false, List, ap, arith, length, take, drop}
use Rattle.std.specs.Prelude.{Some, None, ◌&&◌, nat_le, if◌then◌else◌}
use Rattle.std.proofs.lemmas.Bool.{le-leb, lt-leb}
use Rattle.desk_ops.specs.declared.op.Op.{Op}
use Rattle.desk_script.specs.Act.{sent}

module _ (ops : List Op) (from to n : ℕ) (e : n ≡ length ops) where
  -- what the places say
  by-test : (b : Bool) → (nat_le from to && nat_le to (length ops)) ≡ b → sent ops (Some (from, to)) ≡ (if b then Some (take (to - from) (drop from ops)) else None)
  by-test b h = ap (λ (b : Bool). if b then Some (take (to - from) (drop from ops)) else None) h

  pub there : from ≤ to → to ≤ n → sent ops (Some (from, to)) ≡ Some (take (to - from) (drop from ops))
  there a b = by-test true (ap (λ (c : Bool). c && nat_le to (length ops)) (le-leb from to a) ∙ le-leb to (length ops) (omega (arith, e, b)))

  pub turned : to < from → sent ops (Some (from, to)) ≡ None
  turned a = by-test false (ap (λ (c : Bool). c && nat_le to (length ops)) (lt-leb from to a))

  pub beyond : from ≤ to → n < to → sent ops (Some (from, to)) ≡ None
  beyond a b = by-test false (ap (λ (c : Bool). c && nat_le to (length ops)) (le-leb from to a) ∙ lt-leb to (length ops) (omega (arith, e, b)))
