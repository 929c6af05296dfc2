use Rattle.std.proofs.Common.{◌≡◌, ◌++◌, string_bytes, drop, true}
use Rattle.std.specs.Io.{StartsWith}
use Rattle.script_answers.specs.Text.{list_text}
use Rattle.script_answers.proofs.text.put_list.Given as goal

abbrev pub invariant-loop-entry : goal.invariant-loop-entry
invariant-loop-entry g l = record {
  text : string_bytes l.out ++ list_text g.E.Entry.words l.is_first (drop l.entry-index l.entries) ≡ string_bytes l.fn.out ++ list_text g.E.Entry.words true l.entries;
  prefix : StartsWith (string_bytes l.out) (string_bytes l.fn.out);
}
