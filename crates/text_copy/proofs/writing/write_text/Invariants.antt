use Rattle.std.proofs.Common.{◌≡◌, ◌≤◌, ◌++◌, string_bytes, drop}
use Rattle.std.specs.Str.{encode_utf8_all}
use Rattle.text_copy.specs.Writing.{text_from, text_bytes}
use Rattle.text_copy.proofs.writing.write_text.Given as goal

abbrev pub invariant-loop-symbol : goal.invariant-loop-symbol
invariant-loop-symbol g l =
    (string_bytes l.out ++ encode_utf8_all (text_from l.run l.count (drop l.symbol-index l.copy)) ≡ text_bytes l.copy) × (l.count ≤ l.symbol-index)
