use Rattle.std.proofs.Common.{◌≡◌, ◌++◌, string_bytes}
use Rattle.std.specs.Str.{encode_utf8_all}
use Rattle.text_copy.specs.Writing.{spaces}
use Rattle.text_copy.proofs.writing.put_spaces.Given as goal

abbrev pub invariant-loop : goal.invariant-loop
invariant-loop g l = string_bytes l.out ≡ string_bytes l.fn.out ++ encode_utf8_all (spaces l.counter)
