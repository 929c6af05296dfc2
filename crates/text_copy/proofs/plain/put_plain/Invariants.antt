use Rattle.std.proofs.Common.{◌≡◌, ◌++◌, length, drop, string_bytes}
use Rattle.std.specs.Str.{chars, encode_utf8_all}
use Rattle.text_copy.specs.Plain.{all_written_out}
use Rattle.text_copy.proofs.plain.put_plain.Given as goal

abbrev pub invariant-loop-c : goal.invariant-loop-c
invariant-loop-c g l =
    string_bytes l.out ++ encode_utf8_all (all_written_out (drop (length l.yielded) (chars l.text)))
    ≡ string_bytes l.fn.out ++ encode_utf8_all (all_written_out (chars l.text))
