use Rattle.std.proofs.Common.{◌≡◌, ◌++◌, drop}
use Rattle.std.specs.List.{flat_map}
use Rattle.view_preview.specs.Looks.{repeated_of, repeated}
use Rattle.view_preview.proofs.looks.add_repeated.Given as goal

abbrev pub invariant-loop-paragraph : goal.invariant-loop-paragraph
invariant-loop-paragraph g l = l.looks.items ++ flat_map (repeated_of l.copy) (drop l.paragraph-index l.paragraph-items) ≡ l.fn.looks.items ++ repeated l.copy
