use Rattle.std.proofs.Common.{◌≡◌, ◌++◌, string_bytes, drop}
use Rattle.view_punch.specs.Listing.{missing_lines}
use Rattle.view_punch.proofs.listing.put_missing_lines.Given as goal

abbrev pub invariant-loop-sort : goal.invariant-loop-sort
invariant-loop-sort g l = string_bytes l.out ++ missing_lines l.copy l.case (drop l.sort-index l.sorts) ≡ string_bytes l.fn.out ++ missing_lines l.copy l.case l.sorts
