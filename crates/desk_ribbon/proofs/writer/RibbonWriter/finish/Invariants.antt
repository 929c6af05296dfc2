use Rattle.std.proofs.Common.{◌≡◌, ◌∷◌, ◌++◌, drop}
use Rattle.std.specs.List.{flat_map}
use Rattle.desk_ribbon.specs.Ribbon.{head_row, image_bytes, ribbon}
use Rattle.desk_ribbon.proofs.writer.RibbonWriter.finish.Given as goal

abbrev pub invariant-loop-row : goal.invariant-loop-row
invariant-loop-row g l = l.out.items ++ flat_map image_bytes (drop l.row-index l.row-items) ≡ ribbon (head_row ∷ l.self)
