use Rattle.std.proofs.Common.{◌≡◌, ◌-◌, ◌++◌, length}
use Rattle.std.specs.List.{flat_map, range_with_len}
use Rattle.view_preview.specs.Looks.{at_places, spaces_at}
use Rattle.view_preview.proofs.looks.add_spaces.Given as goal

abbrev pub invariant-loop-place : goal.invariant-loop-place
invariant-loop-place g l = l.looks.items ++ flat_map (spaces_at l.copy) (range_with_len l.place (length l.copy - l.place)) ≡ l.fn.looks.items ++ at_places spaces_at l.copy
