use Rattle.std.proofs.Common.{◌≡◌, drop}
use Rattle.view_proof.specs.Parts.{end_from, end_of}
use Rattle.view_proof.proofs.parts.end_of.Given as goal

abbrev pub invariant-loop-word : goal.invariant-loop-word
invariant-loop-word l = end_from l.end (drop l.word-index l.words) ≡ end_of l.words
