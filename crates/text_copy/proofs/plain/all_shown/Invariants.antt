use Rattle.std.proofs.Common.{◌≡◌, ◌++◌, drop}
use Rattle.text_copy.specs.Plain.{all_shown}
use Rattle.text_copy.proofs.plain.all_shown.Given as goal

abbrev pub invariant-loop-symbol : goal.invariant-loop-symbol
invariant-loop-symbol g l = l.all.items ++ all_shown (drop l.symbol-index l.symbols) ≡ all_shown l.symbols
