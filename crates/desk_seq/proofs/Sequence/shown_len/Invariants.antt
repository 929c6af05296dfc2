use Rattle.std.proofs.Common.{◌≡◌, ◌≤◌, take}
use Rattle.desk_seq.specs.Entries.{shown_in}
use Rattle.desk_seq.proofs.Sequence.shown_len.Given as goal

abbrev pub invariant-loop-at : goal.invariant-loop-at
invariant-loop-at g l = (shown_in (take l.at (g.Self.Sequence.entries l.self)) ≡ l.count) × (l.count ≤ l.at)
