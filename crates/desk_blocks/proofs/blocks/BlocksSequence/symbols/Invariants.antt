use Rattle.std.proofs.Common.{◌≡◌, ◌≤◌, ◌-◌, length, take}
use Rattle.desk_seq.specs.Entries.{shown_symbols}
use Rattle.desk_blocks.proofs.blocks.BlocksSequence.symbols.Given as goal

abbrev pub invariant-loop-at : goal.invariant-loop-at
invariant-loop-at g l = record {
  within : l.at ≤ length l.self-inside.pages.entries;
  shown : l.symbols.items ≡ shown_symbols (take l.at l.self-inside.pages.entries);
}

abbrev pub decreases-loop-at : goal.decreases-loop-at
decreases-loop-at g l = length l.self-inside.pages.entries - l.at
