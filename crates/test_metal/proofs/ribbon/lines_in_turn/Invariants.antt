use Rattle.std.proofs.Common.{◌≡◌, ◌+◌, ◌*◌, length}
use Rattle.desk_ribbon.specs.Ribbon.{ribbon_rows}
use Rattle.test_metal.proofs.ribbon.lines_in_turn.Given as goal

abbrev pub invariant-loop-pair : goal.invariant-loop-pair
invariant-loop-pair l = length (ribbon_rows l.lines.items) ≡ 1 + 17 * l.pair
