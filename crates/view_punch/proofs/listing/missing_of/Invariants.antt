use Rattle.std.proofs.Common.{◌≡◌, ◌+◌, ◌≤◌, drop}
use Rattle.view_punch.specs.Listing.{missing_of}
use Rattle.view_punch.proofs.listing.missing_of.Given as goal

abbrev pub invariant-loop-sort : goal.invariant-loop-sort
invariant-loop-sort l = (l.missing ≤ l.sort-index) × (l.missing + missing_of l.case (drop l.sort-index l.sorts) ≡ missing_of l.case l.sorts)
