use Rattle.std.proofs.Common.{◌≡◌, take, drop}
use Rattle.desk_ops.specs.OpSet.{with_all, in_order}
use Rattle.desk_replica.specs.State.{HasRoom}
use Rattle.desk_replica.proofs.Replica.take_each.Given as goal

-- what was gained, what stays, and that there is still room for the rest where there was for all
abbrev pub invariant-loop-taken : goal.invariant-loop-taken
invariant-loop-taken g l = record {
  gained : l.self.ops ≡ with_all l.fn.self.ops (take l.taken (in_order l.ops.ops));
  site : l.self.site ≡ l.fn.self.site;
  room : HasRoom l.fn.self.ops l.fn.self.spare (in_order l.ops.ops) → HasRoom l.self.ops l.self.spare (drop l.taken (in_order l.ops.ops));
}
