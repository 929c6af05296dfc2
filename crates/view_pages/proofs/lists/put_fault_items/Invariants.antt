use Rattle.std.proofs.Common.{◌≡◌, ◌++◌, string_bytes, drop}
use Rattle.view_pages.specs.Lists.{fault_items}
use Rattle.view_pages.proofs.lists.put_fault_items.Given as goal

abbrev pub invariant-loop-fault : goal.invariant-loop-fault
invariant-loop-fault g l = string_bytes l.out ++ fault_items (drop l.fault-index l.faults) ≡ string_bytes l.fn.out ++ fault_items l.faults
