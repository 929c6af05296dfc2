use Rattle.std.proofs.Common.{◌≡◌, false, take}
use Rattle.std.specs.List.{list_any}
use Rattle.desk_ops.specs.Op.{stamp_of}
use Rattle.desk_ops.specs.Held.{is_borne_in}
use Rattle.desk_replica.proofs.apart.is_one_borne.Given as goal

-- none so far bears a stamp that is borne
abbrev pub invariant-loop-op : goal.invariant-loop-op
invariant-loop-op g l = list_any (λ op. is_borne_in l.held.ops (stamp_of op)) (take l.op-index l.ops) ≡ false
