use Rattle.std.proofs.Common.{◌≡◌, take}
use Rattle.desk_held.specs.Passing.{missing_of}
use Rattle.desk_held.proofs.Held.missing_of_few.Given as goal

-- what is missing of those so far
abbrev pub invariant-loop-op : goal.invariant-loop-op
invariant-loop-op g l = l.list.items ≡ missing_of l.self.ops (take l.op-index l.ops)
