use Rattle.std.proofs.Common.{◌≡◌, ◌++◌, drop}
use Rattle.std.specs.List.{flat_map}
use Rattle.view_preview.specs.Looks.{hyphen_at, hyphens_of}
use Rattle.view_preview.proofs.looks.add_hyphens_of.Given as goal

abbrev pub invariant-loop-word : goal.invariant-loop-word
invariant-loop-word g l =
    l.looks.items ++ flat_map (hyphen_at l.copy) (drop l.word-index l.word-items) ≡ l.fn.looks.items ++ hyphens_of l.copy l.words
