use Rattle.std.proofs.Common.{◌≡◌, ◌++◌, string_bytes, drop}
use Rattle.view_picture.specs.Heads.{copy_faults}
use Rattle.view_picture.proofs.heads.put_copy_faults.Given as goal

abbrev pub invariant-loop-number : goal.invariant-loop-number
invariant-loop-number g l = string_bytes l.out ++ copy_faults l.number (drop l.number l.faults) ≡ string_bytes l.fn.out ++ copy_faults 0 l.faults
