use Rattle.std.proofs.Common.{◌≡◌, ◌^◌, ◌≤◌, ◌++◌, length, drop}
use Rattle.desk_justify.specs.Filled.{fills_of, fill_counts}
use Rattle.desk_justify.proofs.fill.Given as goal

abbrev pub invariant-loop-width : goal.invariant-loop-width
invariant-loop-width l = record {
  small : l.left ≤ 2 ^ 31;
  number : length l.counts.items ≡ l.width-index;
  so_far : fills_of l.fn.rest l.widths ≡ l.counts.items ++ fill_counts l.left (drop l.width-index l.widths);
}
