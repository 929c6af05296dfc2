use Rattle.std.proofs.Common.{◌≡◌, ◌++◌, string_bytes, drop}
use Rattle.view_proof.specs.Faults.{lacking_text}
use Rattle.view_proof.proofs.lacking.put_lacking.Given as goal

abbrev pub invariant-loop-fault : goal.invariant-loop-fault
invariant-loop-fault g l = string_bytes l.out ++ lacking_text l.copy (drop l.fault-index l.lacking) ≡ string_bytes l.fn.out ++ lacking_text l.copy l.lacking
