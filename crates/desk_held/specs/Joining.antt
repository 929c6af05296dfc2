-- Lists of operations added to a set, one after the other.
use Rattle.std.specs.Prelude.{◌≡◌, ◌<◌, ◌↔◌, false, List, length, take}
use Rattle.std.specs.List.{HoldsAt}
use Rattle.desk_ops.specs.declared.op.Op.{Op}
use Rattle.desk_ops.specs.OpSet.{OpSet, has_op, with_all, size, max_ops}
use Rattle.desk_held.specs.declared.AddRefusal.TheVariants.{Full}
use Rattle.desk_held.specs.declared.join.Stopped.{Stopped}

-- exactly the first operations of the list were gained, and the next is not held; it would be too many where that is
-- the cause, and only there
pub record IsStopped (old after : OpSet) (ops : List Op) (stop : Stopped) : Type 0 where
  pub gained : after ≡ with_all old (take stop.taken ops)
  pub within : stop.taken < length ops
  pub next : HoldsAt (λ op. has_op after op ≡ false) ops stop.taken
  pub full : (stop.why ≡ Full) ↔ (size after ≡ max_ops)
