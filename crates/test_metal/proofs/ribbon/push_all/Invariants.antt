use Rattle.std.proofs.Common.{◌+◌, ◌<◌, ◌^◌, length, drop}
use Rattle.std.specs.List.{flat_map}
use Rattle.desk_ribbon.specs.Ribbon.{line_rows}
use Rattle.test_metal.proofs.ribbon.push_all.Given as goal

abbrev pub invariant-loop-line : goal.invariant-loop-line
invariant-loop-line l = length l.writer + length (flat_map line_rows (drop l.line-index l.lines)) + 1 < 2 ^ 32
