use Rattle.std.proofs.Common.{◌≡◌, true, take}
use Rattle.std.specs.List.{list_all}
use Rattle.desk_ops.specs.OpSet.{has_op}
use Rattle.desk_held.proofs.Held.has_each.Given as goal

-- those so far are held
abbrev pub invariant-loop-op : goal.invariant-loop-op
invariant-loop-op g l = list_all (has_op l.self.ops) (take l.op-index l.ops) ≡ true
