use Rattle.std.proofs.Common.{◌≡◌, drop}
use Rattle.std.specs.Prelude.{◌||◌}
use Rattle.view_proof.specs.Parts.{has_fills}
use Rattle.view_proof.proofs.parts.has_fills.Given as goal

abbrev pub invariant-loop-count : goal.invariant-loop-count
invariant-loop-count l = (l.has_any || has_fills (drop l.count-index l.fills)) ≡ has_fills l.fills
