use Rattle.std.proofs.Common.{◌≡◌, ◌++◌, string_bytes}
use Rattle.view_punch.specs.Layout.{cells_to}
use Rattle.view_punch.proofs.layout.put_cells.Given as goal

abbrev pub invariant-loop-at : goal.invariant-loop-at
invariant-loop-at g l = string_bytes l.out ≡ string_bytes l.fn.out ++ cells_to l.case l.row l.at
