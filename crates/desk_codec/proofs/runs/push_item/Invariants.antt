use Rattle.std.proofs.Common.{◌≡◌, ◌++◌, take}
use Rattle.std.specs.List.{flat_map}
use Rattle.desk_codec.specs.Items.{symbol_spelling}
use Rattle.desk_codec.proofs.runs.push_item.Given as goal

-- what is written so far
abbrev pub invariant-loop-symbol : goal.invariant-loop-symbol
invariant-loop-symbol g l = l.out.items ≡ l.initial.out.items ++ flat_map symbol_spelling (take l.symbol-index l.symbols)
