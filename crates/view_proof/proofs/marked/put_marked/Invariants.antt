use Rattle.std.proofs.Common.{◌≡◌, ◌≤◌, ◌++◌, string_bytes, drop}
use Rattle.std.specs.Str.{encode_utf8_all}
use Rattle.text_copy.specs.Plain.{all_shown}
use Rattle.text_copy.specs.Writing.{text_from}
use Rattle.view_proof.specs.Parts.{marked_text}
use Rattle.view_proof.proofs.marked.put_marked.Given as goal

abbrev pub invariant-loop-symbol : goal.invariant-loop-symbol
invariant-loop-symbol g l =
    (string_bytes l.out ++ encode_utf8_all (text_from l.run l.count (all_shown (drop l.symbol-index l.symbols))) ≡ string_bytes l.fn.out ++ marked_text l.symbols)
    × (l.count ≤ l.symbol-index)
