use Rattle.std.proofs.Common.{◌≡◌}
use Rattle.std.specs.List.{filter, range_with_len}
use Rattle.text_copy.specs.Places.{stands}
use Rattle.text_copy.proofs.places.places_of.Given as goal

abbrev pub invariant-loop-place : goal.invariant-loop-place
invariant-loop-place g l = l.places.items ≡ filter (stands l.text l.copy) (range_with_len 0 l.place)
