-- The list in which waiting operations are kept: those of the greatest target first, and those of one target by stamp
-- and bytes.
use Rattle.std.specs.Prelude.{◌≡◌, List, [], ◌∷◌}
use Rattle.std.specs.Option.{unwrap_or}
use Rattle.std.specs.List.{AllByRecursion}
use Rattle.std.specs.Ordering.{on, flip_args, then_cmp}
use Rattle.std.specs.declared.cmp.Ordering.{Ordering}
use Rattle.std.specs.declared.cmp.Ordering.TheVariants.{Less}
use Rattle.desk_ops.specs.declared.op.Stamp.{Stamp}
use Rattle.desk_ops.specs.declared.op.Op.{Op}
use Rattle.desk_ops.specs.Stamp.{stamp_cmp, head}
use Rattle.desk_ops.specs.Op.{target_of, IsLawful}
use Rattle.desk_ops.specs.Order.{op_cmp}
use Rattle.desk_ops.specs.OpSet.{OpSet, no_ops, with_op}
use Rattle.desk_walk.specs.Waiting.{HasTarget}

abbrev pub target_or_head : Op → Stamp
target_or_head op = unwrap_or (target_of op) head

abbrev pub turn_cmp : Op → Op → Ordering
turn_cmp = then_cmp (on target_or_head (flip_args stamp_cmp)) op_cmp

-- each is before all that follow
abbrev pub IsInTurn : List Op → Type 0
IsInTurn [] = Unit {0}
IsInTurn (x ∷ xs) = AllByRecursion (λ y. turn_cmp x y ≡ Less) xs × IsInTurn xs

-- the set of a list's operations
abbrev pub set_of : List Op → OpSet
set_of [] = no_ops
set_of (x ∷ xs) = with_op (set_of xs) x

pub record IsKept (ops : List Op) : Type 0 where
  pub in_turn : IsInTurn ops
  pub lawful : AllByRecursion IsLawful ops
  pub targets : AllByRecursion HasTarget ops
