use Rattle.std.proofs.Common.{◌≡◌, [], ◌∷◌, ◌++◌, drop, map}
use Rattle.std.specs.List.{flat_map}
use Rattle.desk_signals.specs.declared.RibbonRow.TheVariants.{Coarse, FineOut}
use Rattle.desk_ribbon.specs.Ribbon.{image_bytes, line_rows, punch_row}
use Rattle.desk_ribbon.proofs.bytes.put_line.Given as goal

abbrev pub invariant-loop-punch : goal.invariant-loop-punch
invariant-loop-punch g l =
    l.out.items ++ flat_map image_bytes (map punch_row (drop l.punch-index l.punch-items) ++ (Coarse l.line.coarse ∷ FineOut l.line.fine ∷ []))
    ≡ l.initial.out.items ++ flat_map image_bytes (line_rows l.line)
