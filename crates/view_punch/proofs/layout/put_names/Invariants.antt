use Rattle.std.proofs.Common.{◌≡◌, ◌++◌, string_bytes}
use Rattle.view_punch.specs.Layout.{names_to}
use Rattle.view_punch.proofs.layout.put_names.Given as goal

abbrev pub invariant-loop-at : goal.invariant-loop-at
invariant-loop-at g l = string_bytes l.out ≡ string_bytes l.fn.out ++ names_to l.at
