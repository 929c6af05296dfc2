-- What is held, and how many more operations can be held with no new memory.
use Rattle.std.specs.Prelude.{ℕ, ◌≤◌, cond, List, length, T, refl}
use Rattle.std.specs.Coded.{Coded, code_by, coded×, coded_ℕ}
use Rattle.std.specs.List.{AllByRecursion}
use Rattle.desk_ops.specs.declared.op.Op.{Op}
use Rattle.desk_ops.specs.Op.{stamp_of, IsLawful}
use Rattle.desk_ops.specs.OpSet.{OpSet, op_set_code, has_op, is_rising, max_ops}
use Rattle.desk_ops.specs.Held.{is_borne_in}
use Rattle.desk_held.specs.declared.Added.{Added}
use Rattle.desk_held.specs.declared.Added.TheVariants.{New, Known, Forks}

pub record Holding : Type 0 where
  pub ops : OpSet
  pub spare : ℕ

abbrev pub holding_code : Coded Holding
holding_code = code_by (OpSet
    × ℕ) (coded× op_set_code coded_ℕ) (λ h. (h.ops, h.spare)) (λ p. record { ops = p.0; spare = p.1 }) (λ _. refl)

-- the operations are lawful and rise, and are no more than the limit
pub record IsKept (ops : List Op) : Type 0 where
  pub rising : T (is_rising ops)
  pub within : length ops ≤ max_ops
  pub lawful : AllByRecursion IsLawful ops

-- what adding an operation is
abbrev pub added_to : OpSet → Op → Added
added_to ops op = cond (has_op ops op) Known (cond (is_borne_in ops (stamp_of op)) Forks New)
