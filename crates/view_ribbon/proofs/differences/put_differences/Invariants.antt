use Rattle.std.proofs.Common.{◌≡◌, ◌+◌, ◌-◌, ◌++◌, length, string_bytes}
use Rattle.view_ribbon.specs.Differences.{differences_from}
use Rattle.view_ribbon.proofs.differences.put_differences.Given as goal

abbrev pub invariant-pairs : goal.invariant-pairs
invariant-pairs g l =
    (string_bytes l.out ++ differences_from l.scale l.before l.ones l.rest ≡ string_bytes l.fn.out ++ differences_from l.scale 0 l.lines l.others)
    × (length l.ones ≡ length l.lines - l.before) × (length l.rest ≡ length l.others - l.before)

abbrev pub decreases-pairs : goal.decreases-pairs
decreases-pairs g l = length l.ones + length l.rest
