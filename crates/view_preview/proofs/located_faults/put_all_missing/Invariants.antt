use Rattle.std.proofs.Common.{◌≡◌, ◌++◌, string_bytes, drop}
use Rattle.view_preview.specs.LocatedFaults.{all_missing}
use Rattle.view_preview.proofs.located_faults.put_all_missing.Given as goal

abbrev pub invariant-loop-fault : goal.invariant-loop-fault
invariant-loop-fault g l = string_bytes l.out ++ all_missing l.at l.copy (drop l.fault-index l.lacking) ≡ string_bytes l.fn.out ++ all_missing l.at l.copy l.lacking
