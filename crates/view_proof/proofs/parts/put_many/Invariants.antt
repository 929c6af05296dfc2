use Rattle.std.proofs.Common.{◌≡◌, ◌++◌, string_bytes}
use Rattle.view_proof.specs.Parts.{many}
use Rattle.view_proof.proofs.parts.put_many.Given as goal

abbrev pub invariant-loop : goal.invariant-loop
invariant-loop g l = string_bytes l.out ≡ string_bytes l.fn.out ++ many l.counter l.ch
