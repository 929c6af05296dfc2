use Rattle.std.proofs.Common.{◌≡◌, ◌++◌, drop}
use Rattle.std.specs.List.{flat_map}
use Rattle.desk_ribbon.specs.Ribbon.{image_bytes, line_rows, ribbon, ribbon_rows}
use Rattle.desk_ribbon.proofs.bytes.write_ribbon.Given as goal

abbrev pub invariant-loop-line : goal.invariant-loop-line
invariant-loop-line g l =
    l.out.items ++ flat_map image_bytes (flat_map line_rows (drop l.line-index l.lines)) ≡ ribbon (ribbon_rows l.lines)
