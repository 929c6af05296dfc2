use Rattle.std.proofs.Common.{◌≡◌, ◌++◌, [], None, string_bytes, drop}
use Rattle.std.specs.Io.{StartsWith}
use Rattle.std.specs.Str.{encode_utf8_all}
use Rattle.script_answers.specs.Writing.{copy_chars_from, copy_text}
use Rattle.script_answers.proofs.writing.put_copy.Given as goal

abbrev pub invariant-loop-symbol : goal.invariant-loop-symbol
invariant-loop-symbol g l = record {
  text : string_bytes l.out ++ encode_utf8_all (copy_chars_from l.run (drop l.symbol-index l.copy)) ≡ string_bytes l.fn.out ++ copy_text l.copy;
  prefix : StartsWith (string_bytes l.out) (string_bytes l.fn.out);
  none : l.copy ≡ [] → l.run ≡ None;
}
