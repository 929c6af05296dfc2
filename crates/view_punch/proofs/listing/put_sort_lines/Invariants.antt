use Rattle.std.proofs.Common.{◌≡◌, ◌++◌, string_bytes, drop}
use Rattle.view_punch.specs.Listing.{sort_lines}
use Rattle.view_punch.proofs.listing.put_sort_lines.Given as goal

abbrev pub invariant-loop-sort : goal.invariant-loop-sort
invariant-loop-sort g l = string_bytes l.out ++ sort_lines l.case (drop l.sort-index l.sorts) ≡ string_bytes l.fn.out ++ sort_lines l.case l.sorts
