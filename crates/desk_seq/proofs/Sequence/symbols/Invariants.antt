use Rattle.std.proofs.Common.{◌≡◌, take}
use Rattle.desk_seq.specs.Entries.{shown_symbols}
use Rattle.desk_seq.proofs.Sequence.symbols.Given as goal

abbrev pub invariant-loop-at : goal.invariant-loop-at
invariant-loop-at g l = l.symbols.items ≡ shown_symbols (take l.at (g.Self.Sequence.entries l.self))
