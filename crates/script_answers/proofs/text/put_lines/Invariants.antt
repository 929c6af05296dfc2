use Rattle.std.proofs.Common.{◌≡◌, ◌++◌, string_bytes, drop}
use Rattle.std.specs.Io.{StartsWith}
use Rattle.script_answers.specs.Reply.{lines_reported}
use Rattle.script_answers.specs.Text.{lines_text}
use Rattle.script_answers.proofs.text.put_lines.Given as goal

abbrev pub invariant-loop-line : goal.invariant-loop-line
invariant-loop-line g l = record {
  text : string_bytes l.out ++ lines_text (lines_reported (drop l.line-index l.lines)) ≡ string_bytes l.fn.out ++ lines_text (lines_reported l.lines);
  prefix : StartsWith (string_bytes l.out) (string_bytes l.fn.out);
}
