use Rattle.std.proofs.Common.{◌≡◌, ◌+◌, drop}
use Rattle.view_punch.specs.Layout.{fill_from}
use Rattle.view_punch.proofs.layout.fill_in.Given as goal

abbrev pub invariant-loop-index : goal.invariant-loop-index
invariant-loop-index l = fill_from (l.index + 1) (drop l.index l.fills) l.cell ≡ fill_from 1 l.fills l.cell
