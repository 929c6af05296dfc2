use Rattle.std.proofs.Common.{◌≡◌, ◌≤◌, ◌+◌, take, length}
use Rattle.desk_seq.proofs.Sequence.from_entries.Given as goal

abbrev pub invariant-loop-i : goal.invariant-loop-i
invariant-loop-i g l = (g.Self.Sequence.entries l.made ≡ take l.i l.list) × (length l.list ≤ g.Self.Sequence.free l.made + l.i)
