use Rattle.std.proofs.Common.{◌≡◌, drop}
use Rattle.desk_script.specs.Insert.{all_symbols}
use Rattle.desk_script.proofs.insert.all_symbols.Given as goal

abbrev pub invariant-loop-symbol : goal.invariant-loop-symbol
invariant-loop-symbol l = all_symbols (drop l.symbol-index l.copy) ≡ all_symbols l.copy
