use Rattle.std.proofs.Common.{◌≡◌, ◌++◌, string_bytes, drop}
use Rattle.std.specs.Str.{encode_utf8_all}
use Rattle.text_copy.proofs.plain.put_name.Given as goal

abbrev pub invariant-loop-letter : goal.invariant-loop-letter
invariant-loop-letter g l = string_bytes l.out ++ encode_utf8_all (drop l.letter-index l.name) ≡ string_bytes l.fn.out ++ encode_utf8_all l.name
