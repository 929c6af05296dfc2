use Rattle.std.proofs.Common.{◌≡◌, ◌+◌, ◌++◌, string_bytes, drop}
use Rattle.view_picture.specs.Heads.{lacks}
use Rattle.view_picture.proofs.heads.put_lacks.Given as goal

abbrev pub invariant-loop-fault : goal.invariant-loop-fault
invariant-loop-fault g l =
    (string_bytes l.out ++ lacks l.copy l.number (drop l.fault-index l.lacking) ≡ string_bytes l.fn.out ++ lacks l.copy l.first l.lacking)
    × (l.number ≡ l.first + l.fault-index)
