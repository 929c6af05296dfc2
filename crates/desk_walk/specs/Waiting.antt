-- What waits: a set of operations, and of each target the list of what waits for it.
use Rattle.std.specs.Prelude.{◌≡◌, ◌⊎◌, ℕ, Bool, true, false, List, ◌∷◌, Option, Some, None, IsSome, refl}
use Rattle.std.specs.List.{filter}
use Rattle.std.specs.Coded.{Coded, code_by, coded×, coded_ℕ}
use Rattle.std.specs.declared.cmp.Ordering.TheVariants.{Less}
use Rattle.desk_ops.specs.declared.op.Stamp.{Stamp}
use Rattle.desk_ops.specs.declared.op.Op.{Op}
use Rattle.desk_ops.specs.Stamp.{same}
use Rattle.desk_ops.specs.Op.{target_of, IsLawful}
use Rattle.desk_ops.specs.Order.{op_cmp}
use Rattle.desk_ops.specs.OpSet.{OpSet, op_set_code, has_op, with_op, in_order}

-- the operations that wait, and how many more can be put with no new memory
pub record Waiting : Type 0 where
  pub ops : OpSet
  pub spare : ℕ

abbrev pub waiting_code : Coded Waiting
waiting_code = code_by (OpSet
    × ℕ) (coded× op_set_code coded_ℕ) (λ w. (w.ops, w.spare)) (λ p. record { ops = p.0; spare = p.1 }) (λ _. refl)

abbrev pub HasTarget : Op → Type 0
HasTarget op = IsSome (target_of op)

-- whether there is one, and it is s
abbrev pub is_some_same : Stamp → Option Stamp → Bool
is_some_same s None = false
is_some_same s (Some t) = same t s

-- whether the operation's target is s
abbrev pub waits_for : Stamp → Op → Bool
waits_for s op = is_some_same s (target_of op)

-- what waits for s, by stamp and then by bytes
abbrev pub waiting_at : OpSet → Stamp → List Op
waiting_at ops s = filter (waits_for s) (in_order ops)

-- the first operation that waited for s was taken out, and no other
pub record IsReleased (old new : OpSet) (s : Stamp) (op : Op) : Type 0 where
  pub held : has_op old op ≡ true
  pub target : target_of op ≡ Some s
  pub lawful : IsLawful op
  pub gone : has_op new op ≡ false
  pub rest : old ≡ with_op new op
  pub first : (other : Op) → has_op old other ≡ true → waits_for s other ≡ true
      → (other ≡ op) ⊎ (op_cmp op other ≡ Less)
  pub at : waiting_at old s ≡ op ∷ waiting_at new s
