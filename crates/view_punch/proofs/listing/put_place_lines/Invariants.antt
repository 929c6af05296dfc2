use Rattle.std.proofs.Common.{◌≡◌, ◌++◌, string_bytes, drop}
use Rattle.view_punch.specs.Listing.{place_lines}
use Rattle.view_punch.proofs.listing.put_place_lines.Given as goal

abbrev pub invariant-loop-number : goal.invariant-loop-number
invariant-loop-number g l = string_bytes l.out ++ place_lines l.number (drop l.number l.places) ≡ string_bytes l.fn.out ++ place_lines 0 l.places
