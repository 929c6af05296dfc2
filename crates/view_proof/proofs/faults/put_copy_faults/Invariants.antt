use Rattle.std.proofs.Common.{◌≡◌, ◌++◌, string_bytes, drop}
use Rattle.view_proof.specs.Faults.{copy_faults_text}
use Rattle.view_proof.proofs.faults.put_copy_faults.Given as goal

abbrev pub invariant-loop-fault : goal.invariant-loop-fault
invariant-loop-fault g l = string_bytes l.out ++ copy_faults_text (drop l.fault-index l.faults) ≡ string_bytes l.fn.out ++ copy_faults_text l.faults
