use Rattle.std.proofs.Common.{◌≡◌, ◌+◌, ◌<◌, length, take, get_or}
use Rattle.desk_ops.specs.declared.op.Op.{Op}
use Rattle.desk_ops.specs.OpSet.{from_rising}
use Rattle.desk_held.specs.Passing.{IsPart, IsPassed, missing_of}
use Rattle.desk_held.proofs.Held.missing_of_rising.Given as goal

-- what is missing of those so far, and what was passed comes before the next
abbrev pub invariant-loop-op : goal.invariant-loop-op
invariant-loop-op g l = record {
  part : IsPart l.self-inside.ops.entries l.start l.part l.at;
  passed : (next : Op) → l.op-index < length l.ops → next ≡ get_or l.ops l.op-index next → IsPassed l.self-inside.ops.entries (l.start + l.at) next;
  lacking : l.list.items ≡ missing_of (from_rising l.self-inside.ops.entries) (take l.op-index l.ops);
}
