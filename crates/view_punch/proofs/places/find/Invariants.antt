use Rattle.view_punch.specs.Places.{AreFoundTo}
use Rattle.view_punch.proofs.places.find.Given as goal

abbrev pub invariant-loop-place : goal.invariant-loop-place
invariant-loop-place g l = AreFoundTo l.copy l.case l.place l.found
