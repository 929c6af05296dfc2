use Rattle.std.proofs.Common.{◌≡◌, ◌++◌, string_bytes, drop}
use Rattle.view_pages.specs.Table.{rows_text}
use Rattle.view_pages.proofs.table.put_rows.Given as goal

abbrev pub invariant-loop-line : goal.invariant-loop-line
invariant-loop-line g l = string_bytes l.out ++ rows_text l.copy l.scale (drop l.line-index l.lines) ≡ string_bytes l.fn.out ++ rows_text l.copy l.scale l.lines
