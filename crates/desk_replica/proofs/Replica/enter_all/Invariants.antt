use Rattle.std.proofs.Common.{◌≡◌, ◌+◌, ◌≤◌, length, take, drop}
use Rattle.desk_ops.specs.OpSet.{with_all, size, max_ops}
use Rattle.desk_replica.specs.State.{AreApart}
use Rattle.desk_replica.proofs.Replica.enter_all.Given as goal

-- what was gained, and that the rest can be
abbrev pub invariant-loop-op : goal.invariant-loop-op
invariant-loop-op g l = record {
  gained : l.self.ops ≡ with_all l.fn.self.ops (take l.op-index l.ops);
  site : l.self.site ≡ l.fn.self.site;
  apart : AreApart l.self.ops (drop l.op-index l.ops);
  below : size l.self.ops + length l.ops ≤ max_ops + l.op-index;
  spare : length l.ops ≤ l.self.spare + l.op-index;
}
