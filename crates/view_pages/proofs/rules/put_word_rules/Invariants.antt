use Rattle.std.proofs.Common.{◌≡◌, ◌≤◌, ◌+◌, ◌*◌, ◌++◌, string_bytes, drop, false}
use Rattle.desk_lines.specs.Groups.{widest_matrix}
use Rattle.view_picture.specs.Places.{after_word}
use Rattle.view_pages.specs.Rules.{symbol_rules}
use Rattle.view_pages.proofs.rules.put_word_rules.Given as goal

abbrev pub invariant-loop-symbol : goal.invariant-loop-symbol
invariant-loop-symbol g l =
    (string_bytes l.out ++ symbol_rules l.pen l.terms l.end l.inner (drop l.symbol-index l.word) ≡ string_bytes l.fn.out ++ symbol_rules l.pen l.terms l.here false l.word)
    × ((after_word l.terms l.end (drop l.symbol-index l.word) ≡ after_word l.terms l.here l.word) × (l.end ≤ l.here + l.symbol-index * widest_matrix))
