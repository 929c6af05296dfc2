use Rattle.std.proofs.Common.{◌≡◌, ◌+◌, length, drop}
use Rattle.std.specs.List.{flat_map}
use Rattle.desk_ribbon.specs.Ribbon.{line_rows, ribbon_rows}
use Rattle.desk_ribbon.proofs.bytes.count_rows.Given as goal

abbrev pub invariant-loop-line : goal.invariant-loop-line
invariant-loop-line g l = l.rows + length (flat_map line_rows (drop l.line-index l.lines)) ≡ length (ribbon_rows l.lines)
