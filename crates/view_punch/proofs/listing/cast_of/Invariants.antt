use Rattle.std.proofs.Common.{◌≡◌, ◌+◌, ◌≤◌, drop}
use Rattle.view_punch.specs.Listing.{cast_of}
use Rattle.view_punch.proofs.listing.cast_of.Given as goal

abbrev pub invariant-loop-symbol : goal.invariant-loop-symbol
invariant-loop-symbol l = (l.cast ≤ l.symbol-index) × (l.cast + cast_of (drop l.symbol-index l.copy) ≡ cast_of l.copy)
