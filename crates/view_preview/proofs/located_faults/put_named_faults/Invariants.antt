use Rattle.std.proofs.Common.{◌≡◌, ◌++◌, string_bytes, drop}
use Rattle.view_preview.specs.LocatedFaults.{named_faults}
use Rattle.view_preview.proofs.located_faults.put_named_faults.Given as goal

abbrev pub invariant-loop-fault : goal.invariant-loop-fault
invariant-loop-fault g l = string_bytes l.out ++ named_faults l.name (drop l.fault-index l.faults) ≡ string_bytes l.fn.out ++ named_faults l.name l.faults
