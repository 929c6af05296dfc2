use Rattle.std.proofs.Common.{◌≡◌, ◌-◌, ◌++◌, length}
use Rattle.std.specs.List.{flat_map, range_with_len}
use Rattle.view_preview.specs.Looks.{at_places, quote_at}
use Rattle.view_preview.proofs.looks.add_quotes.Given as goal

abbrev pub invariant-loop-place : goal.invariant-loop-place
invariant-loop-place g l = l.looks.items ++ flat_map (quote_at l.copy) (range_with_len l.place (length l.copy - l.place)) ≡ l.fn.looks.items ++ at_places quote_at l.copy
