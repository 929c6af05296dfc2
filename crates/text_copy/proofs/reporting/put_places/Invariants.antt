use Rattle.std.proofs.Common.{◌≡◌, ◌++◌, drop}
use Rattle.text_copy.specs.Reporting.{place_lines}
use Rattle.text_copy.proofs.reporting.put_places.Given as goal

abbrev pub invariant-loop-place : goal.invariant-loop-place
invariant-loop-place g l = l.out.items ++ place_lines l.count l.copy (drop l.place-index l.places) ≡ l.fn.out.items ++ place_lines l.count l.copy l.places
