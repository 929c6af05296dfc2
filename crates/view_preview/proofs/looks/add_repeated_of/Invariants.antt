use Rattle.std.proofs.Common.{◌≡◌, ◌∷◌, ◌++◌, drop}
use Rattle.std.specs.List.{flat_map, zip}
use Rattle.view_preview.specs.Looks.{again_at, repeated_of}
use Rattle.view_preview.proofs.looks.add_repeated_of.Given as goal

abbrev pub invariant-loop-word : goal.invariant-loop-word
invariant-loop-word g l =
    l.looks.items ++ flat_map (again_at l.copy) (zip (l.before ∷ drop l.word-index l.more) (drop l.word-index l.more)) ≡ l.fn.looks.items ++ repeated_of l.copy l.words
