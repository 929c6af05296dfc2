use Rattle.std.proofs.Common.{◌≡◌, ◌++◌, take}
use Rattle.desk_seq.specs.Entries.{shown_symbols}
use Rattle.desk_blocks.proofs.slot.add_shown.Given as goal

abbrev pub invariant-loop-slot : goal.invariant-loop-slot
invariant-loop-slot g l = l.symbols.items ≡ l.initial.symbols.items ++ shown_symbols (take l.slot-index l.part)
