use Rattle.std.proofs.Common.{◌≡◌, ◌+◌, ◌-◌, ◌≤◌, [], ◌∷◌, ◌++◌, length, drop, map, vec_len, vec_capacity}
use Rattle.desk_signals.specs.declared.RibbonRow.TheVariants.{Coarse, FineOut}
use Rattle.desk_ribbon.specs.Ribbon.{line_rows, punch_row}
use Rattle.desk_ribbon.proofs.writer.rows.append.Given as goal

abbrev pub invariant-loop-punch : goal.invariant-loop-punch
invariant-loop-punch g l = record {
  room : vec_len l.rows + (length l.matrices - l.punch-index) + 2 ≤ vec_capacity l.rows;
  items : l.rows.items ++ (map punch_row (drop l.punch-index l.matrices) ++ (Coarse l.line.coarse ∷ FineOut l.line.fine ∷ [])) ≡ l.fn.rows.items ++ line_rows l.line;
}
