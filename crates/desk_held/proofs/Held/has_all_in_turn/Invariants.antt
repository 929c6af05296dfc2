use Rattle.std.proofs.Common.{◌≡◌, ◌+◌, ◌<◌, true, length, take, get_or}
use Rattle.std.specs.List.{list_all}
use Rattle.desk_ops.specs.declared.op.Op.{Op}
use Rattle.desk_ops.specs.OpSet.{has_op, from_rising}
use Rattle.desk_held.specs.Passing.{IsPart, IsPassed}
use Rattle.desk_held.proofs.Held.has_all_in_turn.Given as goal

-- those so far are held, and what was passed comes before the next
abbrev pub invariant-loop-op : goal.invariant-loop-op
invariant-loop-op g l = record {
  part : IsPart l.self-inside.ops.entries l.start l.part l.at;
  passed : (next : Op) → l.op-index < length l.ops → next ≡ get_or l.ops l.op-index next → IsPassed l.self-inside.ops.entries (l.start + l.at) next;
  held : list_all (has_op (from_rising l.self-inside.ops.entries)) (take l.op-index l.ops) ≡ true;
}
