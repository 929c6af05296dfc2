use Rattle.std.proofs.Common.{◌≡◌, ◌≤◌, ◌*◌, ◌^◌, ◌++◌, string_bytes, drop}
use Rattle.view_pages.specs.Rules.{line_rules, words_rules}
use Rattle.view_pages.proofs.rules.put_line_rules.Given as goal

abbrev pub invariant-loop-word : goal.invariant-loop-word
invariant-loop-word g l =
    (string_bytes l.out ++ words_rules l.pen l.terms l.copy l.space l.here (drop l.word-index l.line.words) ≡ string_bytes l.fn.out ++ line_rules l.pen l.terms l.copy l.line)
    × (l.here ≤ l.word-index * 2 ^ 42)
