use Rattle.std.proofs.Common.{◌≡◌, ◌++◌, string_bytes, drop}
use Rattle.view_ribbon.specs.Figures.{table_text}
use Rattle.view_ribbon.proofs.figures.put_table.Given as goal

abbrev pub invariant-loop-row : goal.invariant-loop-row
invariant-loop-row g l = string_bytes l.out ++ table_text l.lines (drop l.row-index l.rows) ≡ string_bytes l.fn.out ++ table_text l.lines l.rows
