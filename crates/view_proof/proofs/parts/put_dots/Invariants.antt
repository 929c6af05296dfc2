use Rattle.std.proofs.Common.{◌≡◌, ◌++◌, string_bytes, drop}
use Rattle.view_proof.specs.Parts.{dots_text}
use Rattle.view_proof.proofs.parts.put_dots.Given as goal

abbrev pub invariant-loop-count : goal.invariant-loop-count
invariant-loop-count g l = string_bytes l.out ++ dots_text (drop l.count-index l.fills) ≡ string_bytes l.fn.out ++ dots_text l.fills
