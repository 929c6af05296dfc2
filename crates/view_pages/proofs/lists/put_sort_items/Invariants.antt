use Rattle.std.proofs.Common.{◌≡◌, ◌++◌, string_bytes, drop}
use Rattle.view_pages.specs.Lists.{sort_items}
use Rattle.view_pages.proofs.lists.put_sort_items.Given as goal

abbrev pub invariant-loop-fault : goal.invariant-loop-fault
invariant-loop-fault g l = string_bytes l.out ++ sort_items l.copy (drop l.fault-index l.lacking) ≡ string_bytes l.fn.out ++ sort_items l.copy l.lacking
