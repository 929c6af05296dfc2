use Rattle.std.proofs.Common.{◌≡◌, ◌∷◌, ◌++◌, drop, map}
use Rattle.view_galley.specs.Values.{LineValues}
use Rattle.view_preview.specs.Looks.{alike_of, alike_ends, last_word}
use Rattle.view_preview.proofs.looks.add_alike_ends.Given as goal

abbrev pub invariant-loop-line : goal.invariant-loop-line
invariant-loop-line g l =
    l.looks.items ++ alike_of l.copy (l.first ∷ l.second ∷ map (λ (line : LineValues). last_word line.words) (drop l.line-index l.more))
    ≡ l.fn.looks.items ++ alike_ends l.copy l.lines
