use Rattle.std.proofs.Common.{◌≡◌, ◌++◌, string_bytes, drop}
use Rattle.std.specs.Io.{StartsWith}
use Rattle.script_answers.specs.Text.{hex_text}
use Rattle.script_answers.proofs.text.put_hex.Given as goal

abbrev pub invariant-loop-b : goal.invariant-loop-b
invariant-loop-b g l = record {
  text : string_bytes l.out ++ hex_text (drop l.b-index l.bytes) ≡ string_bytes l.fn.out ++ hex_text l.bytes;
  prefix : StartsWith (string_bytes l.out) (string_bytes l.fn.out);
}
