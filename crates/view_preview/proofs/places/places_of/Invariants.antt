use Rattle.std.proofs.Common.{◌≡◌, ◌≤◌, ◌+◌, ◌++◌, length, drop}
use Rattle.std.specs.Str.{chars}
use Rattle.std.specs.Prelude.{false}
use Rattle.text_copy.specs.Reading.{start}
use Rattle.view_preview.specs.Places.{behind, places_from}
use Rattle.view_preview.proofs.places.places_of.Given as goal

abbrev pub invariant-loop-c : goal.invariant-loop-c
invariant-loop-c g l =
    (l.places.items ++ places_from l.plain l.escaped l.here (drop (length l.yielded) (chars l.text)) ≡ places_from l.plain false start (chars l.text))
    × (behind l.here (drop (length l.yielded) (chars l.text)) ≡ behind start (chars l.text))
    × (l.here.line ≤ length l.yielded + 1) × (l.here.column ≤ length l.yielded + 1)
