use Rattle.std.proofs.Common.{◌≡◌, ◌++◌, string_bytes, drop}
use Rattle.view_proof.specs.Parts.{symbols_text}
use Rattle.view_proof.proofs.parts.put_symbols.Given as goal

abbrev pub invariant-loop-symbol : goal.invariant-loop-symbol
invariant-loop-symbol g l = string_bytes l.out ++ symbols_text (drop l.symbol-index l.symbols) ≡ string_bytes l.fn.out ++ symbols_text l.symbols
