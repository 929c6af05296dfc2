use Rattle.std.proofs.Common.{◌≡◌, ◌≤◌, ◌++◌, string_bytes, drop}
use Rattle.std.specs.Str.{encode_utf8_all}
use Rattle.text_copy.specs.Writing.{text_from, text_bytes}
use Rattle.feed_history.proofs.texts.put_symbols.Given as goal

abbrev pub invariant-loop-symbol : goal.invariant-loop-symbol
invariant-loop-symbol g l = record {
  so_far : string_bytes l.out ++ encode_utf8_all (text_from l.run l.count (drop l.symbol-index l.copy)) ≡ string_bytes l.fn.out ++ text_bytes l.copy;
  few : l.count ≤ l.symbol-index;
}
